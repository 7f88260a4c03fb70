use Rattle.row_store.proofs.RearrangedLaws.{states_follow_commits}
use Rattle.row_store.proofs.laws.states_follow_commits.Goals as goal

pub returns : goal.returns
returns c = states_follow_commits

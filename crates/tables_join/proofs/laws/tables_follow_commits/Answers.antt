use Rattle.tables_join.proofs.JoinedLaws.{tables_follow_commits}
use Rattle.tables_join.proofs.laws.tables_follow_commits.Goals as goal

pub returns : goal.returns
returns c = tables_follow_commits

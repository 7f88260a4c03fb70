use Rattle.row_store.proofs.StateLaws.{lines_after-push}
use Rattle.row_store.proofs.laws.lines_follow_commits.Goals as goal

pub returns : goal.returns
returns c = lines_after-push

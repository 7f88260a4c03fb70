use Rattle.row_store.proofs.ReplyLaws.{replies_tell}
use Rattle.row_store.proofs.laws.replies_tell.Goals as goal

pub returns : goal.returns
returns c = replies_tell

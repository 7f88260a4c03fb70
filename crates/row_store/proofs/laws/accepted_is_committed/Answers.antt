use Rattle.row_store.proofs.HistoryLaws.{accepted_is_committed}
use Rattle.row_store.proofs.laws.accepted_is_committed.Goals as goal

pub returns : goal.returns
returns c = accepted_is_committed

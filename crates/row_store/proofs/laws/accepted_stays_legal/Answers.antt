use Rattle.row_store.proofs.HistoryLaws.{accepted_stays_legal}
use Rattle.row_store.proofs.laws.accepted_stays_legal.Goals as goal

pub returns : goal.returns
returns c = accepted_stays_legal

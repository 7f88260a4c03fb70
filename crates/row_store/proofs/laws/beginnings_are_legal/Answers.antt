use Rattle.row_store.proofs.HistoryLaws.{beginnings_are_legal}
use Rattle.row_store.proofs.laws.beginnings_are_legal.Goals as goal

pub returns : goal.returns
returns c = beginnings_are_legal

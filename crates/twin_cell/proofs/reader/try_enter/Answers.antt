use Rattle.twin_cell.proofs.KeptLaws.{enters}
use Rattle.twin_cell.proofs.reader.try_enter.Goals as goal

pub enter_as-requires : goal.enter_as-requires
enter_as-requires g c x = enters (λ side. g.R.Replica.state side.replica) _ _ x

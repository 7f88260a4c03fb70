use Rattle.twin_cell.proofs.KeptLaws.{admits}
use Rattle.twin_cell.proofs.note.new_seat.Goals as goal

pub reader-requires : goal.reader-requires
reader-requires g c = admits (λ side. g.R.Replica.state side.replica)

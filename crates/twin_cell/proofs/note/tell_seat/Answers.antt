use Rattle.twin_cell.proofs.KeptLaws.{forks, merges}
use Rattle.twin_cell.proofs.note.tell_seat.Goals as goal

pub tell-requires : goal.tell-requires
tell-requires g c = forks (λ side. g.R.Replica.state side.replica) _ _

pub learn-requires-clause-rule : goal.learn-requires-clause-rule
learn-requires-clause-rule g c = merges (λ side. g.R.Replica.state side.replica) _ _ _ _

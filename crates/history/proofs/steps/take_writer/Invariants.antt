use Rattle.history.specs.Seats.{Becomes}
use Rattle.history.proofs.steps.take_writer.Given as goal

abbrev pub invariant-loop : goal.invariant-loop
invariant-loop g l = Becomes l.initial.seat l.initial.seat.me.0 l.initial.seat.me.1 l.seat

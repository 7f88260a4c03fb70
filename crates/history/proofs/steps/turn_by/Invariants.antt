use Rattle.history.specs.Seats.{Becomes, turns}
use Rattle.history.proofs.steps.turn_by.Given as goal

abbrev pub invariant-loop : goal.invariant-loop
invariant-loop g l = Becomes l.initial.seat l.initial.seat.me.0 (turns l.counter l.initial.seat.me.1) l.seat

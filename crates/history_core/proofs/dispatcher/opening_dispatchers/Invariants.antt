use Rattle.history_core.specs.Fresh.{OpeningDispatchers}
use Rattle.history_core.proofs.dispatcher.opening_dispatchers.Given as goal

abbrev pub invariant-loop : goal.invariant-loop
invariant-loop l = OpeningDispatchers l.counter l.list.items

use Rattle.history_core.specs.Fresh.{OpeningClients}
use Rattle.history_core.proofs.client.opening_clients.Given as goal

abbrev pub invariant-loop-place : goal.invariant-loop-place
invariant-loop-place l = OpeningClients l.place l.list.items

use Rattle.std.proofs.Common.{◌≡◌}
use Rattle.ssb_clients.proofs.tickets.clients_of.Given as goal

abbrev pub invariant-loop-token : goal.invariant-loop-token
invariant-loop-token g l = l.clients.items ≡ l.yielded

use Rattle.ssb_clients.specs.Tickets.{IsQuiet}
use Rattle.server_tests.proofs.tests.thirty.make_each.Given as goal

abbrev pub invariant-loop-refresh : goal.invariant-loop-refresh
invariant-loop-refresh g l = IsQuiet l.server l.client

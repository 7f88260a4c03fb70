use Rattle.std.proofs.Common.{◌≡◌, take}
use Rattle.std.specs.Prelude.{◌==◌, count_by}
use Rattle.history.specs.Tokens.{TokenRecord}
use Rattle.history.specs.Members.{number_of}
use Rattle.ssb_server.proofs.tickets.dispatchers_with.Given as goal

abbrev pub invariant-loop-dispatcher : goal.invariant-loop-dispatcher
invariant-loop-dispatcher g l = l.count ≡ count_by (λ (t : TokenRecord). number_of t.who == l.number)
    (take l.dispatcher-index l.dispatchers)

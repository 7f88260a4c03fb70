use Rattle.std.proofs.Common.{◌≡◌, take}
use Rattle.std.specs.Prelude.{◌==◌, count_by}
use Rattle.history.specs.Tokens.{TokenRecord}
use Rattle.history.specs.Members.{number_of}
use Rattle.ssb_clients.proofs.tickets.clients_with.Given as goal

abbrev pub invariant-loop-client : goal.invariant-loop-client
invariant-loop-client g l = l.count ≡ count_by (λ (t : TokenRecord). number_of t.who == l.number)
    (take l.client-index l.clients)

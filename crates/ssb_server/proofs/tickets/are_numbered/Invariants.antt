use Rattle.std.proofs.Common.{◌≡◌, ℕ, ◌+◌, ◌<◌}
use Rattle.std.specs.Prelude.{◌==◌, count_by}
use Rattle.history.specs.Tokens.{TokenRecord}
use Rattle.history.specs.Members.{number_of}
use Rattle.ssb_clients.specs.Tickets.{with_reader}
use Rattle.ssb_server.proofs.tickets.are_numbered.Given as goal

abbrev pub invariant-loop-before : goal.invariant-loop-before
invariant-loop-before g l = (k : ℕ) → k < l.before → count_by (λ (t : TokenRecord). number_of t.who == k + 1)
    (with_reader l.dispatchers l.reader) ≡ 1

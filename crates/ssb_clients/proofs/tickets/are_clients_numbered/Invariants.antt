use Rattle.std.proofs.Common.{◌≡◌, ℕ, ◌+◌, ◌<◌}
use Rattle.std.specs.Prelude.{◌==◌, count_by}
use Rattle.history.specs.Tokens.{TokenRecord}
use Rattle.history.specs.Members.{number_of}
use Rattle.ssb_clients.proofs.tickets.are_clients_numbered.Given as goal

abbrev pub invariant-loop-before : goal.invariant-loop-before
invariant-loop-before g l = (k : ℕ) → k < l.before → count_by (λ (t : TokenRecord). number_of t.who == k + 1) l.clients ≡ 1

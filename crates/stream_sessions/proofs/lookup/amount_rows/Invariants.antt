use Rattle.std.proofs.Common.{◌≡◌, map, take}
use Rattle.stream_sessions.specs.Lookups.{amount_row}
use Rattle.stream_sessions.proofs.lookup.amount_rows.Given as goal

abbrev pub invariant-loop-amount : goal.invariant-loop-amount
invariant-loop-amount l = l.rows.items ≡ map (λ amount. amount_row amount.0.now amount.1) (take l.amount-index l.amounts)

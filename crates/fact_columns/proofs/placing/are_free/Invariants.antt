use Rattle.std.proofs.Common.{◌≡◌, ◌<◌, ◌≤◌, ℕ, None}
use Rattle.fact_columns.specs.Spans.{live_at}
use Rattle.fact_columns.proofs.placing.are_free.Given as goal

abbrev pub invariant-loop-place : goal.invariant-loop-place
invariant-loop-place l = (i : ℕ) → l.first ≤ i → i < l.place → live_at l.table.places i ≡ None

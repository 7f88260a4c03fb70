use Rattle.std.proofs.Common.{◌≡◌, ◌<◌, ℕ, get_or, length}
use Rattle.fact_columns.proofs.place_columns.lay.Given as goal

abbrev pub invariant-loop-number : goal.invariant-loop-number
invariant-loop-number g l = record {
  long : length l.spare.items ≡ length l.places;
  laid : (n : ℕ) (other : _) → n < l.number
      → get_or l.spare.items (get_or l.places n 0) other ≡ get_or l.column.items n other;
}

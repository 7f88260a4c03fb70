use Rattle.std.proofs.Common.{◌≡◌, ◌≢◌, ℕ, ◌<◌, ◌*◌, length, get_or}
use Rattle.shared_scan.proofs.group_columns.parts_of.Given as goal

abbrev pub invariant-loop-number : goal.invariant-loop-number
invariant-loop-number l = record {
  len : length l.parts.items ≡ l.number-index;
  done : (k : ℕ) (d : ℕ) → k < l.number-index → get_or l.numbers k 0 ≢ 4294967295
      → get_or l.parts.items k d ≡ get_or l.numbers k 0 * l.step;
}

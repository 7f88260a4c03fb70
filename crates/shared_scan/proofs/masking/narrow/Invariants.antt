use Rattle.std.proofs.Common.{◌≡◌, ℕ, ◌<◌, ◌≤◌, length, get_or, bit_and}
use Rattle.shared_scan.proofs.masking.narrow.Given as goal

abbrev pub invariant-loop-row : goal.invariant-loop-row
invariant-loop-row l = record {
  len : length l.masks ≡ length l.initial.masks;
  done : (p : ℕ) → p < l.row → get_or l.masks p 0 ≡ bit_and (get_or l.initial.masks p 0)
      (get_or l.of_codes (get_or l.codes p 0) 0);
  left : (p : ℕ) → l.row ≤ p → get_or l.masks p 0 ≡ get_or l.initial.masks p 0;
}

use Rattle.std.proofs.Common.{◌≡◌, ℕ, ◌<◌, ◌⊎◌, Some, length, get_or}
use Rattle.std.specs.Int.{bit_at}
use Rattle.shared_scan.specs.Numbering.{IsTaken}
use Rattle.shared_scan.proofs.numbering.mark.Given as goal

abbrev pub invariant-loop-row : goal.invariant-loop-row
invariant-loop-row l = record {
  len : length l.seen ≡ length l.initial.seen;
  each : (p k : ℕ) → p < l.row → bit_at (get_or l.masks p 0) k ≡ 1
      → bit_at (get_or l.seen (get_or l.codes p 0) 0) k ≡ 1;
  only : (code k : ℕ) → bit_at (get_or l.seen code 0) k ≡ 1
      → (bit_at (get_or l.initial.seen code 0) k ≡ 1) ⊎ IsTaken l.codes (Some l.masks) k code;
}

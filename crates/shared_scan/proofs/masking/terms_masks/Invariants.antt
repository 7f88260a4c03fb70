use Rattle.std.proofs.Common.{◌≡◌, ℕ, ◌<◌, ◌≤◌, ◌/◌, ◌%◌, ◌&&◌, length, get_or}
use Rattle.ssb_answers.specs.RowValues.{is_within}
use Rattle.scan_kernel.specs.Masks.{IsMask}
use Rattle.shared_scan.proofs.masking.terms_masks.Given as goal

abbrev pub invariant-loop-code : goal.invariant-loop-code
invariant-loop-code l = record {
  len : length l.masks.items ≡ l.code;
  free : (code : ℕ) → code < l.code → code < 16 → get_or l.masks.items code 0 ≡ 0;
  live : (code : ℕ) → code < l.code → 16 ≤ code → IsMask
      (λ plan. is_within plan.quantity (code / 16) && is_within plan.discount (code % 16)) l.plans
      (get_or l.masks.items code 0);
}

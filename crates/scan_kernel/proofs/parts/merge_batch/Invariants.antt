use Rattle.std.proofs.Common.{◌≡◌, ℕ, ◌<◌, ◌≤◌, length, get_or}
use Rattle.scan_kernel.specs.declared.totals.Totals.{Totals}
use Rattle.scan_kernel.specs.Parts.{MergesTotals}
use Rattle.scan_kernel.proofs.parts.merge_batch.Given as goal

abbrev pub invariant-loop-number : goal.invariant-loop-number
invariant-loop-number l = record {
  all : length l.into ≡ length l.initial.into;
  done : (k : ℕ) (r t : Totals) → k < l.number → MergesTotals (get_or l.initial.into k t) (get_or l.from k r)
      (get_or l.into k t);
  left : (k : ℕ) (t : Totals) → l.number ≤ k → get_or l.into k t ≡ get_or l.initial.into k t;
}

use Rattle.std.proofs.Common.{◌≡◌, ℕ, ◌<◌, length, get_or}
use Rattle.scan_kernel.specs.declared.columns.Grouping.{Grouping}
use Rattle.scan_kernel.specs.declared.totals.Totals.{Totals}
use Rattle.scan_kernel.specs.Totals.{AreZeros}
use Rattle.scan_kernel.proofs.range.no_batch_totals.Given as goal

abbrev pub invariant-loop-grouping : goal.invariant-loop-grouping
invariant-loop-grouping l = record {
  all : length l.all.items ≡ l.grouping-index;
  each : (k : ℕ) (q : Grouping) (t : Totals) → k < l.grouping-index
      → AreZeros (get_or l.groupings k q).size (get_or l.all.items k t);
}

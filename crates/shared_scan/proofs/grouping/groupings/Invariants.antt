use Rattle.std.proofs.Common.{◌≡◌, ℕ, ◌<◌, length, get_or}
use Rattle.scan_kernel.specs.declared.columns.Grouping.{Grouping}
use Rattle.shared_scan.specs.Groupings.{IsReadyGrouping}
use Rattle.shared_scan.specs.declared.ready.Ready.{Ready}
use Rattle.shared_scan.proofs.grouping.groupings.Given as goal

abbrev pub invariant-loop-ready : goal.invariant-loop-ready
invariant-loop-ready l = record {
  len : length l.groupings.items ≡ l.ready-index;
  each : (k : ℕ) (grouping : Grouping) → k < l.ready-index → (ready : Ready)
      → IsReadyGrouping l.index l.lines (get_or l.all k ready) (get_or l.groupings.items k grouping);
}

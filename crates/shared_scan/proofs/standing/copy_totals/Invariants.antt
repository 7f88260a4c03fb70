use Rattle.std.proofs.Common.{◌≡◌, ℕ, ◌<◌, length, get_or}
use Rattle.scan_kernel.specs.declared.totals.Totals.{Totals}
use Rattle.shared_scan.specs.Standing.{HasNumbersOf}
use Rattle.shared_scan.proofs.standing.copy_totals.Given as goal

abbrev pub invariant-loop-one : goal.invariant-loop-one
invariant-loop-one l = record {
  len : length l.copy.items ≡ l.one-index;
  each : (k : ℕ) (s t : Totals) → k < l.one-index → HasNumbersOf (get_or l.totals k s) (get_or l.copy.items k t);
}

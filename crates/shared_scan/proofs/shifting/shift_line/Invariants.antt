use Rattle.std.proofs.Common.{◌≡◌, ℕ, ◌<◌, ◌≤◌, length, get_or}
use Rattle.scan_kernel.specs.declared.totals.Totals.{Totals}
use Rattle.shared_scan.specs.declared.ready.Ready.{Ready}
use Rattle.shared_scan.specs.Standing.{takes_line, ShiftsWhere}
use Rattle.shared_scan.proofs.shifting.shift_line.Given as goal

abbrev pub invariant-loop-number : goal.invariant-loop-number
invariant-loop-number l = record {
  len : length l.totals ≡ length l.initial.totals;
  done : (k : ℕ) (r : Ready) (t : Totals) → k < l.number
      → ShiftsWhere (takes_line l.masks k l.line) l.index (get_or l.all k r) l.line l.comes
      (get_or l.initial.totals k t) (get_or l.totals k t);
  left : (k : ℕ) (t : Totals) → l.number ≤ k → get_or l.totals k t ≡ get_or l.initial.totals k t;
}

use Rattle.std.proofs.Common.{◌≡◌, ℕ, ◌<◌, length, get_or}
use Rattle.ssb_answers.specs.declared.answer.Rows.{Rows}
use Rattle.scan_kernel.specs.declared.totals.Totals.{Totals}
use Rattle.shared_scan.specs.TotalRows.{AreRowsOf}
use Rattle.shared_scan.specs.declared.ready.Ready.{Ready}
use Rattle.shared_scan.proofs.sums.batch_rows.Given as goal

abbrev pub invariant-loop-number : goal.invariant-loop-number
invariant-loop-number l = record {
  len : length l.rows.items ≡ l.number;
  each : (k : ℕ) (rows : Rows) → k < l.number → (ready : Ready) (t : Totals)
      → AreRowsOf l.scan.index.now l.scan.lines l.scan.masks.now k (get_or l.all k ready) (get_or l.totals k t)
      (get_or l.rows.items k rows);
}

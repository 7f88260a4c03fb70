use Rattle.std.proofs.Common.{◌≡◌, ◌+◌, ◌≤◌, length, take, drop}
use Rattle.row_store.specs.Lines.{lines_after_refresh}
use Rattle.row_store.specs.History.{lines_after}
use Rattle.row_store.specs.Refusals.{first_refusal}
use Rattle.row_store.proofs.store.RowStore.examine.Given as goal

abbrev pub invariant-loop-i : goal.invariant-loop-i
invariant-loop-i l = record {
  number : l.number ≡ l.i;
  lines : l.lines ≡ length (lines_after_refresh (lines_after l.self.base l.self.log) (take l.i l.actions));
  few : l.lines ≤ l.self.base.limits.lines;
  rest : first_refusal l.self.base 1 (lines_after l.self.base l.self.log) l.actions
      ≡ first_refusal l.self.base (l.number + 1) (lines_after_refresh (lines_after l.self.base l.self.log)
      (take l.i l.actions)) (drop l.i l.actions);
}

use Rattle.std.proofs.Common.{◌≡◌, ◌+◌, ◌*◌, ◌≤◌, List, length, take}
use Rattle.ssb_schema.specs.declared.line.LineFields.{LineFields}
use Rattle.row_store.specs.Lines.{lines_of, lines_after_refresh}
use Rattle.row_store.proofs.place.count_after.Given as goal

abbrev pub invariant-loop-action : goal.invariant-loop-action
invariant-loop-action l = record {
  value : (lines : List LineFields) → length (lines_of l.key lines) ≡ l.held
      → l.count ≡ length (lines_of l.key (lines_after_refresh lines (take l.action-index l.earlier)));
  bound : l.count ≤ l.held + 7 * l.action-index;
}

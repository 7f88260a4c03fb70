use Rattle.std.proofs.Common.{◌≡◌, map, take}
use Rattle.serde_json.specs.View.{view}
use Rattle.ssb_formats.specs.StatementText.{cell_data}
use Rattle.ssb_formats.proofs.statement_text.row_json.Given as goal

abbrev pub invariant-loop-cell : goal.invariant-loop-cell
invariant-loop-cell l = map view l.list.items ≡ map cell_data (take l.cell-index l.cells)

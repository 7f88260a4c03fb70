use Rattle.std.proofs.Common.{◌≡◌, map, take}
use Rattle.ssb_report.specs.StatementText.{cell_text}
use Rattle.ssb_formats.proofs.statement_cells.texts_of.Given as goal

abbrev pub invariant-loop-cell : goal.invariant-loop-cell
invariant-loop-cell l = l.texts.items ≡ map cell_text (take l.cell-index l.row)

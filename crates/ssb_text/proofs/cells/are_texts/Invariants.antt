use Rattle.std.proofs.Common.{take, All}
use Rattle.ssb_schema.specs.Columns.{value_of}
use Rattle.ssb_text.specs.RoundTrip.{IsColumnText}
use Rattle.ssb_text.proofs.cells.are_texts.Given as goal

abbrev pub invariant-loop-cell : goal.invariant-loop-cell
invariant-loop-cell l = All (λ cell. IsColumnText (value_of cell)) (take l.cell-index l.cells)

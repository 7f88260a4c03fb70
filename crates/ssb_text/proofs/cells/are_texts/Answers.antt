use Rattle.std.proofs.Common.{map}
use Rattle.std.proofs.lemmas.List.Elements.{All-map, All-more, recursion_from_All}
use Rattle.ssb_schema.specs.Columns.{value_of}
use Rattle.ssb_schema.specs.declared.kind.Cell.TheVariants.{Number}
use Rattle.ssb_text.specs.RoundTrip.{IsColumnText}
use Rattle.ssb_text.proofs.EachLaws.{each}
use Rattle.ssb_text.proofs.cells.are_texts.Goals as goal

pub loop-cell-preserved : goal.loop-cell-preserved
loop-cell-preserved c =
    All-more (λ cell. IsColumnText (value_of cell)) c.args.cells.now c.loop-cell.cell-index (Number 0)
    c.loop-cell-test.true c.loop-cell.invariant c.is_text.ensures

pub returns : goal.returns
returns c =
    recursion_from_All IsColumnText (map value_of c.args.cells.now) (All-map IsColumnText value_of c.args.cells.now
    (each (λ cell. IsColumnText (value_of cell)) c.args.cells.now c.loop-cell.cell-index c.loop-cell-test.false
    c.loop-cell.invariant))

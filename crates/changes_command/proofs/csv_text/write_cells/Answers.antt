use Rattle.std.proofs.Common.{[], ◌∷◌, flat_map, get_or, refl, rules}
use Rattle.ssb_schema.specs.declared.kind.Cell.TheVariants.{Number}
use Rattle.ssb_text.proofs.WrittenLaws.{part_item, part_longer, writes_stopped}
use Rattle.ssb_text.specs.TableText.{cell_text}
use Rattle.changes_command.specs.CsvText.{after_comma}
use Rattle.changes_command.proofs.csv_text.write_cells.Goals as goal

pub returns-in_err-write_cell : goal.returns-in_err-write_cell
returns-in_err-write_cell g c =
    let a = g.W.Write.contents c.args.out.now in
    let e = g.W.Write.contents c.write_cell.new.out in
    let cells = c.args.cells.now in
    let i = c.loop-cell.cell-index in
    writes_stopped _ c.from_residual.result a e _ c.from_residual.ensures.1
    (part_longer a e (flat_map (λ cell. after_comma (cell_text cell)) cells) (10 ∷ [])
    (part_item (λ cell. after_comma (cell_text cell)) cells i (get_or cells i (Number 0)) (Number 0) a
    (g.W.Write.contents c.loop-cell.out) e (search rules) refl c.loop-cell.invariant c.in_err-write_cell.ensures))

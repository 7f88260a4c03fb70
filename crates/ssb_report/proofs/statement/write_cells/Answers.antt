use Rattle.std.proofs.Common.{◌-◌, drop, flat_map, length, take}
use Rattle.ssb_report.specs.StatementText.{cell_behind, cell_text}
use Rattle.ssb_text.proofs.WrittenLaws.{writes_stopped, writes_next, part_longer}
use Rattle.ssb_report.proofs.CellLaws.{cells_are}
use Rattle.ssb_report.proofs.statement.write_cells.Goals as goal

pub returns-in_err-write_cell-in-len1-up : goal.returns-in_err-write_cell-in-len1-up
returns-in_err-write_cell-in-len1-up g c =
    let contents = g.W.Write.contents in
    let cells = c.args.cells.now in
    let first = c.first-item.result in
    let a = contents c.args.writer.now in
    let b = contents c.write_cell.new.writer in
    rw (cells_are cells first first c.in-len1-up.len_at_least c.first-item.is)
    (writes_stopped _ c.from_residual.result a b _ c.from_residual.ensures.1
    (part_longer a b (cell_text first) (flat_map cell_behind (take (length cells - 1) (drop 1 cells))) c.in_err-write_cell-in-len1-up.ensures))

pub returns-in_ok-write_cell-in-len1-up : goal.returns-in_ok-write_cell-in-len1-up
returns-in_ok-write_cell-in-len1-up g c =
    let contents = g.W.Write.contents in
    let cells = c.args.cells.now in
    let first = c.first-item.result in
    rw (cells_are cells first first c.in-len1-up.len_at_least c.first-item.is)
    (writes_next (contents c.args.writer.now) (contents c.write_cell.new.writer) _ (cell_text first)
    (flat_map cell_behind (take (length cells - 1) (drop 1 cells))) c.write_others.result c.in_ok-write_cell-in-len1-up.ensures
    c.write_others.ensures)

use Rattle.std.proofs.Common.{rules}
use Rattle.ssb_report.specs.StatementText.{cell_behind}
use Rattle.ssb_text.proofs.WrittenLaws.{writes_stopped, part_item}
use Rattle.ssb_report.proofs.statement.write_others.Goals as goal

pub returns-in_err-write_next : goal.returns-in_err-write_next
returns-in_err-write_next g c =
    let contents = g.W.Write.contents in
    writes_stopped _ c.from_residual.result (contents c.args.writer.now) (contents c.write_next.new.writer) _
    c.from_residual.ensures.1
    (part_item cell_behind c.args.cells.now c.loop-cell.cell-index c.cell-item.result c.cell-item.result
    (contents c.args.writer.now) (contents c.loop-cell.writer) (contents c.write_next.new.writer)
    (search rules) c.cell-item.is c.loop-cell.invariant c.in_err-write_next.ensures)

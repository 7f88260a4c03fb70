use Rattle.std.proofs.Common.{rules}
use Rattle.ssb_report.specs.StatementText.{report_line}
use Rattle.ssb_text.proofs.WrittenLaws.{writes_stopped, part_item}
use Rattle.ssb_report.proofs.statement.write_lines.Goals as goal

pub returns-in_err-write_line : goal.returns-in_err-write_line
returns-in_err-write_line g c =
    let contents = g.W.Write.contents in
    writes_stopped _ c.from_residual.result (contents c.args.writer.now) (contents c.write_line.new.writer) _
    c.from_residual.ensures.1
    (part_item report_line c.args.rows.now c.loop-row.row-index c.row-item.result c.row-item.result
    (contents c.args.writer.now) (contents c.loop-row.writer) (contents c.write_line.new.writer)
    (search rules) c.row-item.is c.loop-row.invariant c.in_err-write_line.ensures)

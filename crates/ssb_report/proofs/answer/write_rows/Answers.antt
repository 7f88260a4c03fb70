use Rattle.std.proofs.Common.{rules}
use Rattle.ssb_report.specs.AnswerText.{row_text}
use Rattle.ssb_text.proofs.WrittenLaws.{writes_stopped, part_item}
use Rattle.ssb_report.proofs.answer.write_rows.Goals as goal

pub returns-in_err-write_row : goal.returns-in_err-write_row
returns-in_err-write_row g c =
    let contents = g.W.Write.contents in
    writes_stopped _ c.from_residual.result (contents c.args.writer.now) (contents c.write_row.new.writer) _
    c.from_residual.ensures.1
    (part_item (row_text c.args.query) c.args.rows.now c.loop-row.row-index c.row-item.result c.row-item.result
    (contents c.args.writer.now) (contents c.loop-row.writer) (contents c.write_row.new.writer)
    (search rules) c.row-item.is c.loop-row.invariant c.in_err-write_row.ensures)

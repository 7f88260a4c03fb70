use Rattle.std.proofs.Common.{rules}
use Rattle.ssb_text.proofs.WrittenLaws.{writes_stopped, part_item}
use Rattle.ssb_trace.specs.TraceText.{told_row_text}
use Rattle.ssb_trace.proofs.answers.write_told_rows.Goals as goal

pub returns-in_err-write_told_row : goal.returns-in_err-write_told_row
returns-in_err-write_told_row g c =
    let contents = g.W.Write.contents in
    writes_stopped _ c.from_residual.result (contents c.args.writer.now) (contents c.write_told_row.new.writer) _
    c.from_residual.ensures.1
    (part_item (told_row_text c.args.query) c.args.rows.now c.loop-row.row-index c.row-item.result c.row-item.result
    (contents c.args.writer.now) (contents c.loop-row.writer) (contents c.write_told_row.new.writer)
    (search rules) c.row-item.is c.loop-row.invariant c.in_err-write_told_row.ensures)

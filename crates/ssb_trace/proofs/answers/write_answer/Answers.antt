use Rattle.std.proofs.Common.{flat_map}
use Rattle.ssb_text.proofs.WrittenLaws.{writes_stopped, writes_next, part_longer}
use Rattle.ssb_trace.specs.TraceText.{head_text, told_row_text}
use Rattle.ssb_trace.proofs.answers.write_answer.Goals as goal

pub returns-in_err-write_head : goal.returns-in_err-write_head
returns-in_err-write_head g c =
    let contents = g.W.Write.contents in
    let a = contents c.args.writer.now in
    let b = contents c.write_head.new.writer in
    writes_stopped _ c.from_residual.result a b _ c.from_residual.ensures.1
    (part_longer a b (head_text c.args.told.now) (flat_map (told_row_text c.args.told.now.question.0)
    c.args.told.now.rows) (c.in_err-write_head.ensures))

pub returns : goal.returns
returns g c =
    let contents = g.W.Write.contents in
    writes_next (contents c.args.writer.now) (contents c.write_head.new.writer) _
    (head_text c.args.told.now) (flat_map (told_row_text c.args.told.now.question.0) c.args.told.now.rows)
    c.write_told_rows.result (c.in_ok-write_head.ensures)
    (rw (c.query.ensures, c.as_slice.ensures) at c.write_told_rows.ensures)

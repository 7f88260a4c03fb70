use Rattle.std.proofs.Common.{rules}
use Rattle.ssb_text.proofs.WrittenLaws.{writes_stopped, part_item}
use Rattle.ssb_trace.specs.TraceText.{told_text}
use Rattle.ssb_trace.proofs.answers.write_answers.Goals as goal

pub returns-in_err-write_answer : goal.returns-in_err-write_answer
returns-in_err-write_answer g c =
    let contents = g.W.Write.contents in
    writes_stopped _ c.from_residual.result (contents c.args.writer.now) (contents c.write_answer.new.writer) _
    c.from_residual.ensures.1
    (part_item told_text c.args.answers.now c.loop-told.told-index c.told-item.result c.told-item.result
    (contents c.args.writer.now) (contents c.loop-told.writer) (contents c.write_answer.new.writer)
    (search rules) c.told-item.is c.loop-told.invariant c.in_err-write_answer.ensures)

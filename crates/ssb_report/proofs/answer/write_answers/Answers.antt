use Rattle.std.proofs.Common.{rules}
use Rattle.ssb_report.specs.AnswerText.{answer_text}
use Rattle.ssb_text.proofs.WrittenLaws.{writes_stopped, part_item}
use Rattle.ssb_report.proofs.answer.write_answers.Goals as goal

pub returns-in_err-write_answer : goal.returns-in_err-write_answer
returns-in_err-write_answer g c =
    let contents = g.W.Write.contents in
    writes_stopped _ c.from_residual.result (contents c.args.writer.now) (contents c.write_answer.new.writer) _
    c.from_residual.ensures.1
    (part_item answer_text c.args.answers.now c.loop-answer.answer-index c.answer-item.result c.answer-item.result
    (contents c.args.writer.now) (contents c.loop-answer.writer) (contents c.write_answer.new.writer)
    (search rules) c.answer-item.is c.loop-answer.invariant c.in_err-write_answer.ensures.fault)

use Rattle.std.proofs.Common.{rules}
use Rattle.ssb_formats.proofs.ShownLaws.{part_item, shows_stopped}
use Rattle.ssb_formats.specs.Formats.{next_shown}
use Rattle.ssb_formats.proofs.format.write_others.Goals as goal

pub returns-in_err-write_next : goal.returns-in_err-write_next
returns-in_err-write_next g c =
    let contents = g.W.Write.contents in
    shows_stopped _ c.from_residual.result (contents c.args.writer.now) (contents c.write_next.new.writer) _
    c.from_residual.ensures.1
    (part_item (next_shown c.args.format) c.args.answers.now c.loop-answer.answer-index c.answer-item.result
    c.answer-item.result (contents c.args.writer.now) (contents c.loop-answer.writer)
    (contents c.write_next.new.writer)
    (search rules) c.answer-item.is c.loop-answer.invariant c.in_err-write_next.ensures)

use Rattle.std.proofs.Common.{flat_map}
use Rattle.ssb_report.specs.AnswerText.{value_text}
use Rattle.ssb_text.specs.Piece.{after_bar}
use Rattle.ssb_text.proofs.WrittenLaws.{writes_stopped, writes_next, part_longer}
use Rattle.ssb_trace.specs.TraceText.{count_text, written_constants}
use Rattle.ssb_trace.proofs.answers.write_fields.Goals as goal

pub returns-in_err-write_counts : goal.returns-in_err-write_counts
returns-in_err-write_counts g c =
    let contents = g.W.Write.contents in
    let a = contents c.args.writer.now in
    let b = contents c.write_counts.new.writer in
    writes_stopped _ c.from_residual.result a b _ c.from_residual.ensures.1
    (part_longer a b (count_text c.args.told.now)
    (flat_map (after_bar value_text) (written_constants c.args.told.now.question)) (c.in_err-write_counts.ensures))

pub returns : goal.returns
returns g c =
    let contents = g.W.Write.contents in
    writes_next (contents c.args.writer.now) (contents c.write_counts.new.writer) _
    (count_text c.args.told.now) (flat_map (after_bar value_text) (written_constants c.args.told.now.question))
    c.write_constants.result (c.in_ok-write_counts.ensures) (c.write_constants.ensures)

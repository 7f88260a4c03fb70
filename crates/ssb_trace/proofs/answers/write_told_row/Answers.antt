use Rattle.std.proofs.Common.{[], ◌∷◌}
use Rattle.ssb_report.specs.AnswerText.{row_text}
use Rattle.ssb_text.proofs.WrittenLaws.{writes_stopped, writes_next, part_longer}
use Rattle.ssb_trace.proofs.answers.write_told_row.Goals as goal

pub returns-in_err-write_pieces : goal.returns-in_err-write_pieces
returns-in_err-write_pieces g c =
    let contents = g.W.Write.contents in
    let a = contents c.args.writer.now in
    let b = contents c.write_pieces.new.writer in
    writes_stopped _ c.from_residual.result a b _ c.from_residual.ensures.1
    (part_longer a b (114 ∷ 111 ∷ 119 ∷ 124 ∷ []) (row_text c.args.query c.args.row.now)
    (c.in_err-write_pieces.ensures))

pub returns : goal.returns
returns g c =
    let contents = g.W.Write.contents in
    writes_next (contents c.args.writer.now) (contents c.write_pieces.new.writer) _
    (114 ∷ 111 ∷ 119 ∷ 124 ∷ []) (row_text c.args.query c.args.row.now)
    c.write_row.result (c.in_ok-write_pieces.ensures) (c.write_row.ensures)

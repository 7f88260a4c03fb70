use Rattle.std.proofs.Common.{rules, [], ◌∷◌, ◌++◌, ap, subst, ◌∙◌, append-nil}
use Rattle.ssb_text.specs.Written.{StopsShort}
use Rattle.ssb_report.specs.AnswerText.{value_text}
use Rattle.ssb_text.specs.Piece.{after_bar}
use Rattle.ssb_text.proofs.WrittenLaws.{writes_stopped, part_item}
use Rattle.ssb_report.proofs.answer.write_after_bars.Goals as goal

pub returns-in_err-write_pieces : goal.returns-in_err-write_pieces
returns-in_err-write_pieces g c =
    let contents = g.W.Write.contents in
    writes_stopped _ c.from_residual.result (contents c.args.writer.now) (contents c.write_pieces.new.writer) _
    c.from_residual.ensures.1
    (part_item (after_bar value_text) c.args.groups.now c.loop-value.value-index c.value-item.result c.value-item.result
    (contents c.args.writer.now) (contents c.loop-value.writer) (contents c.write_pieces.new.writer)
    (search rules) c.value-item.is c.loop-value.invariant
    (subst (StopsShort (contents c.loop-value.writer) (contents c.write_pieces.new.writer))
    (ap (λ t. 124 ∷ (t ++ [])) c.piece_of.ensures ∙ ap (λ t. 124 ∷ t) (append-nil (value_text c.value-item.result)))
    c.in_err-write_pieces.ensures))

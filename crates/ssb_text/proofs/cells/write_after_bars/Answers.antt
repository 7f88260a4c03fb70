use Rattle.std.proofs.Common.{rules, [], ◌∷◌, ◌++◌, refl, ap, get_or, subst, ◌∙◌, append-nil}
use Rattle.ssb_text.specs.Written.{StopsShort}
use Rattle.ssb_text.proofs.WrittenLaws.{writes_stopped, part_item}
use Rattle.ssb_schema.specs.declared.kind.Cell.TheVariants.{Number}
use Rattle.ssb_text.specs.Piece.{after_bar}
use Rattle.ssb_text.specs.TableText.{cell_text}
use Rattle.ssb_text.proofs.cells.write_after_bars.Goals as goal

pub returns-in_err-write_pieces : goal.returns-in_err-write_pieces
returns-in_err-write_pieces g c =
    let contents = g.W.Write.contents in
    let cell = get_or c.args.cells.now c.loop-cell.cell-index (Number 0) in
    writes_stopped _ c.from_residual.result (contents c.args.writer.now) (contents c.write_pieces.new.writer) _
    c.from_residual.ensures.1
    (part_item (after_bar cell_text) c.args.cells.now c.loop-cell.cell-index cell (Number 0)
    (contents c.args.writer.now) (contents c.loop-cell.writer) (contents c.write_pieces.new.writer)
    (search rules) refl c.loop-cell.invariant
    (subst (StopsShort (contents c.loop-cell.writer) (contents c.write_pieces.new.writer))
    (ap (λ t. 124 ∷ (t ++ [])) c.piece_of.ensures ∙ ap (λ t. 124 ∷ t) (append-nil (cell_text cell)))
    c.in_err-write_pieces.ensures))

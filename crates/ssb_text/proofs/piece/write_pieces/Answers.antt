use Rattle.std.proofs.Common.{refl, rules}
use Rattle.ssb_text.specs.Piece.{piece_text}
use Rattle.ssb_text.proofs.WrittenLaws.{writes_stopped, part_item}
use Rattle.ssb_text.proofs.piece.write_pieces.Goals as goal

pub returns-in_err-write_piece : goal.returns-in_err-write_piece
returns-in_err-write_piece g c =
    let contents = g.W.Write.contents in
    writes_stopped _ c.from_residual.result (contents c.args.writer.now) (contents c.write_piece.new.writer) _
    c.from_residual.ensures.1
    (part_item piece_text c.args.pieces.now c.loop-piece.piece-index _ _ (contents c.args.writer.now)
    (contents c.loop-piece.writer) (contents c.write_piece.new.writer)
    (search rules) refl c.loop-piece.invariant c.in_err-write_piece.ensures)

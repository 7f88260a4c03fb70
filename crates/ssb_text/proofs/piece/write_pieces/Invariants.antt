use Rattle.std.proofs.Common.{take, flat_map}
use Rattle.std.specs.Io.KnownBytes.{Appends}
use Rattle.ssb_text.specs.Piece.{piece_text}
use Rattle.ssb_text.proofs.piece.write_pieces.Given as goal

abbrev pub invariant-loop-piece : goal.invariant-loop-piece
invariant-loop-piece g l =
    Appends (g.W.Write.contents l.fn.writer) (g.W.Write.contents l.writer)
    (flat_map piece_text (take l.piece-index l.pieces))

use Rattle.std.proofs.Common.{subst, length}
use Rattle.ssb_script.specs.Taking.{Took, IsPiece}
use Rattle.ssb_script.specs.declared.pieces.LinePiece.{LinePiece}
use Rattle.ssb_script.proofs.TakingLaws.{line_after}
use Rattle.ssb_script.proofs.pieces.next_line.Goals as goal

pub returns-in-Line-clause-took : goal.returns-in-Line-clause-took
returns-in-Line-clause-took g c =
    let remaining = g.R.Read.remaining in
    let new = c.next_piece.new in
    let took = subst (λ (piece : LinePiece). Took (remaining c.loop.reader) (remaining new.reader) c.loop.buffer.items
    new.buffer.items (IsPiece piece (remaining c.loop.reader))) c.in-Line.is c.in_ok-next_piece.ensures.took in
    line_after _ _ _ _ _ _ c.args.limit (length new.buffer.items) c.loop.invariant.took took

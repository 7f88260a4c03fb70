use Rattle.std.proofs.Common.{take, flat_map}
use Rattle.std.specs.Io.KnownBytes.{Appends}
use Rattle.ssb_text.specs.Piece.{after_bar}
use Rattle.ssb_text.specs.TableText.{cell_text}
use Rattle.ssb_text.proofs.cells.write_after_bars.Given as goal

-- the cells so far
abbrev pub invariant-loop-cell : goal.invariant-loop-cell
invariant-loop-cell g l =
    Appends (g.W.Write.contents l.fn.writer) (g.W.Write.contents l.writer)
    (flat_map (after_bar cell_text) (take l.cell-index l.cells))

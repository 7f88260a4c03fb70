use Rattle.std.proofs.Common.{◌++◌, flat_map}
use Rattle.ssb_text.specs.Numbers.{line_feed}
use Rattle.ssb_text.specs.Piece.{after_bar}
use Rattle.ssb_text.specs.TableText.{cell_text}
use Rattle.ssb_text.proofs.CellTextLaws.{row_in_parts}
use Rattle.ssb_text.proofs.WrittenLaws.{appends_part, part_longer, writes_next, writes_stopped}
use Rattle.ssb_text.proofs.cells.write_joined.Goals as goal

pub returns-in_err-write_pieces : goal.returns-in_err-write_pieces
returns-in_err-write_pieces g c =
    let contents = g.W.Write.contents in
    let a = contents c.args.writer.now in
    let b = contents c.write_pieces.new.writer in
    let bars = flat_map (after_bar cell_text) c.args.others.now in
    writes_stopped _ c.from_residual.result a b _ c.from_residual.ensures.1
    (rw (row_in_parts c.args.first.now c.args.others.now, ← c.piece_of.ensures)
    (part_longer a b _ (bars ++ line_feed) c.in_err-write_pieces.ensures))

pub returns-in_err-write_after_bars : goal.returns-in_err-write_after_bars
returns-in_err-write_after_bars g c =
    let contents = g.W.Write.contents in
    let a = contents c.args.writer.now in
    let b = contents c.write_pieces.new.writer in
    let d = contents c.write_after_bars.new.writer in
    let bars = flat_map (after_bar cell_text) c.args.others.now in
    writes_stopped _ c.from_residual-in_err-write_after_bars.result a d _
    c.from_residual-in_err-write_after_bars.ensures.1
    (rw (row_in_parts c.args.first.now c.args.others.now, ← c.piece_of.ensures)
    (appends_part a b d _ (bars ++ line_feed) c.in_ok-write_pieces.ensures
    (part_longer b d bars line_feed c.in_err-write_after_bars.ensures)))

pub returns : goal.returns
returns g c =
    let contents = g.W.Write.contents in
    let a = contents c.args.writer.now in
    let b = contents c.write_pieces.new.writer in
    let d = contents c.write_after_bars.new.writer in
    let bars = flat_map (after_bar cell_text) c.args.others.now in
    rw (row_in_parts c.args.first.now c.args.others.now, ← c.piece_of.ensures)
    (writes_next a b _ _ (bars ++ line_feed) c.write_pieces-2.result c.in_ok-write_pieces.ensures
    (writes_next b d _ bars line_feed c.write_pieces-2.result c.in_ok-write_after_bars.ensures
    c.write_pieces-2.ensures))

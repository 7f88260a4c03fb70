use Rattle.std.proofs.Common.{[], ◌++◌, codes}
use Rattle.ssb_schema.specs.Rows.{line_values}
use Rattle.ssb_text.specs.TableText.{row_text}
use Rattle.ssb_text.proofs.WrittenLaws.{writes_stopped, writes_next, part_longer}
use Rattle.ssb_trace.proofs.CommittedLaws.{line_in_parts}
use Rattle.ssb_trace.proofs.commits.write_line.Goals as goal

pub returns-in_err-write_pieces : goal.returns-in_err-write_pieces
returns-in_err-write_pieces g c =
    let contents = g.W.Write.contents in
    let a = contents c.args.writer.now in
    let b = contents c.write_pieces.new.writer in
    writes_stopped _ c.from_residual.result a b _ c.from_residual.ensures.1
    (rw (line_in_parts c.args.line.now)
    (part_longer a b (codes "line|" ++ []) (row_text (line_values c.args.line.now)) c.in_err-write_pieces.ensures))

pub returns : goal.returns
returns g c =
    let contents = g.W.Write.contents in
    rw (line_in_parts c.args.line.now)
    (writes_next (contents c.args.writer.now) (contents c.write_pieces.new.writer) _ (codes "line|" ++ [])
    (row_text (line_values c.args.line.now)) c.write_row.result c.in_ok-write_pieces.ensures c.write_row.ensures.text)

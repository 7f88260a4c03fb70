use Rattle.std.proofs.Common.{length, map}
use Rattle.ssb_schema.specs.Rows.{line_values}
use Rattle.ssb_report.specs.OrderText.{order_head}
use Rattle.ssb_text.proofs.WrittenLaws.{writes_stopped, writes_next, part_longer}
use Rattle.ssb_text.specs.TableText.{rows_text}
use Rattle.ssb_report.proofs.order.write_lines.Goals as goal

pub returns-in_err-write_pieces : goal.returns-in_err-write_pieces
returns-in_err-write_pieces g c =
    let contents = g.W.Write.contents in
    let a = contents c.args.writer.now in
    let b = contents c.write_pieces.new.writer in
    writes_stopped _ c.from_residual.result a b _ c.from_residual.ensures.1
    (part_longer a b (order_head c.args.key c.args.at (length c.args.lines.now))
    (rows_text (map line_values c.args.lines.now)) c.in_err-write_pieces.ensures)

pub returns : goal.returns
returns g c =
    let contents = g.W.Write.contents in
    writes_next (contents c.args.writer.now) (contents c.write_pieces.new.writer) _
    (order_head c.args.key c.args.at (length c.args.lines.now)) (rows_text (map line_values c.args.lines.now))
    c.write_rows.result c.in_ok-write_pieces.ensures c.write_rows.ensures.text

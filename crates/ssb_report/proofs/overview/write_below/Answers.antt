use Rattle.std.proofs.Common.{flat_map}
use Rattle.ssb_report.specs.StatementText.{report_line}
use Rattle.ssb_text.specs.Numbers.{line_feed}
use Rattle.ssb_text.proofs.WrittenLaws.{writes_stopped, writes_next, part_longer}
use Rattle.ssb_report.proofs.overview.write_below.Goals as goal

pub returns-in_err-write_pieces : goal.returns-in_err-write_pieces
returns-in_err-write_pieces g c =
    let contents = g.W.Write.contents in
    let a = contents c.args.writer.now in
    let b = contents c.write_pieces.new.writer in
    writes_stopped _ c.from_residual.result a b _ c.from_residual.ensures.1
    (part_longer a b line_feed (flat_map report_line c.args.rows.now) c.in_err-write_pieces.ensures)

pub returns : goal.returns
returns g c =
    let contents = g.W.Write.contents in
    writes_next (contents c.args.writer.now) (contents c.write_pieces.new.writer) _ line_feed
    (flat_map report_line c.args.rows.now) c.write_lines.result c.in_ok-write_pieces.ensures c.write_lines.ensures

use Rattle.ssb_text.specs.Numbers.{line_feed}
use Rattle.ssb_report.specs.StatementText.{cells_text}
use Rattle.ssb_text.proofs.WrittenLaws.{writes_stopped, writes_next, part_longer}
use Rattle.ssb_report.proofs.statement.write_line.Goals as goal

pub returns-in_err-write_cells : goal.returns-in_err-write_cells
returns-in_err-write_cells g c =
    let contents = g.W.Write.contents in
    let a = contents c.args.writer.now in
    let b = contents c.write_cells.new.writer in
    writes_stopped _ c.from_residual.result a b _ c.from_residual.ensures.1
    (part_longer a b (cells_text c.args.row.now) line_feed
    (rw c.as_slice.ensures at c.in_err-write_cells.ensures))

pub returns : goal.returns
returns g c =
    let contents = g.W.Write.contents in
    writes_next (contents c.args.writer.now) (contents c.write_cells.new.writer) _ (cells_text c.args.row.now)
    line_feed c.write_bytes.result (rw c.as_slice.ensures at c.in_ok-write_cells.ensures) c.write_bytes.ensures

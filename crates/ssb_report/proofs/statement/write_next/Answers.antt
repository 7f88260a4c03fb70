use Rattle.std.proofs.Common.{[], ◌∷◌}
use Rattle.ssb_report.specs.StatementText.{cell_text}
use Rattle.ssb_text.proofs.WrittenLaws.{writes_stopped, writes_next, part_longer}
use Rattle.ssb_report.proofs.statement.write_next.Goals as goal

pub returns-in_err-write_bytes : goal.returns-in_err-write_bytes
returns-in_err-write_bytes g c =
    let contents = g.W.Write.contents in
    let a = contents c.args.writer.now in
    let b = contents c.write_bytes.new.writer in
    writes_stopped _ c.from_residual.result a b _ c.from_residual.ensures.1
    (part_longer a b (124 ∷ []) (cell_text c.args.cell.now) c.in_err-write_bytes.ensures)

pub returns : goal.returns
returns g c =
    let contents = g.W.Write.contents in
    writes_next (contents c.args.writer.now) (contents c.write_bytes.new.writer) _ (124 ∷ [])
    (cell_text c.args.cell.now) c.write_cell.result c.in_ok-write_bytes.ensures c.write_cell.ensures

use Rattle.ssb_text.proofs.WrittenLaws.{part_longer, writes_next, writes_stopped}
use Rattle.run_command.specs.Served.{client_line}
use Rattle.run_command.proofs.printing.write_client.Goals as goal

pub returns-in_err-write_pieces : goal.returns-in_err-write_pieces
returns-in_err-write_pieces g c =
    let contents = g.W.Write.contents in
    let a = contents c.args.out.now in
    let b = contents c.write_pieces.new.writer in
    writes_stopped _ c.from_residual.result a b _ c.from_residual.ensures.1
    (part_longer a b (client_line c.args.number) c.args.report.now c.in_err-write_pieces.ensures)

pub returns : goal.returns
returns g c =
    let contents = g.W.Write.contents in
    writes_next (contents c.args.out.now) (contents c.write_pieces.new.writer) _ (client_line c.args.number)
    c.args.report.now c.write_bytes.result c.in_ok-write_pieces.ensures c.write_bytes.ensures

use Rattle.std.proofs.Common.{map}
use Rattle.ssb_text.proofs.WrittenLaws.{part_longer, writes_next, writes_stopped}
use Rattle.run_command.specs.Served.{clients_text, commits_line}
use Rattle.run_command.proofs.printing.write_run.Goals as goal

pub returns-in_err-write_clients : goal.returns-in_err-write_clients
returns-in_err-write_clients g c =
    let contents = g.W.Write.contents in
    let a = contents c.args.out.now in
    let b = contents c.write_clients.new.out in
    writes_stopped _ c.from_residual.result a b _ c.from_residual.ensures.1
    (part_longer a b (clients_text 1 (map (λ report. report.items) c.args.run.now.reports.items))
    (commits_line c.args.run.now.trace) (rw c.as_slice.ensures.value at c.in_err-write_clients.ensures))

pub returns : goal.returns
returns g c =
    let contents = g.W.Write.contents in
    writes_next (contents c.args.out.now) (contents c.write_clients.new.out) _
    (clients_text 1 (map (λ report. report.items) c.args.run.now.reports.items)) (commits_line c.args.run.now.trace)
    c.write_pieces.result (rw c.as_slice.ensures.value at c.in_ok-write_clients.ensures)
    (rw c.as_slice-commits.ensures at c.write_pieces.ensures)

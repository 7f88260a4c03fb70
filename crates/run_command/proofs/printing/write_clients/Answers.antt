use Rattle.std.proofs.Common.{Global, List, Vec, ℕ}
use Rattle.ssb_text.proofs.WrittenLaws.{writes_stopped}
use Rattle.run_command.proofs.PrintingLaws.{appends_client, part_client}
use Rattle.run_command.proofs.printing.write_clients.Goals as goal

pub returns-in_err-write_client : goal.returns-in_err-write_client
returns-in_err-write_client g c =
    let contents = g.W.Write.contents in
    let bytes : Vec ℕ Global → List ℕ = λ report. report.items in
    let report = c.index-reports-before.result in
    writes_stopped _ c.from_residual.result (contents c.args.out.now) (contents c.write_client.new.out) _
    c.from_residual.ensures.1
    (part_client bytes c.args.reports.now c.loop-before.before report report (contents c.args.out.now)
    (contents c.loop-before.out) (contents c.write_client.new.out)
    c.loop-before-test.true c.index-reports-before.is c.loop-before.invariant
    (rw c.as_slice.ensures.value at c.in_err-write_client.ensures))

pub loop-before-preserved : goal.loop-before-preserved
loop-before-preserved g c =
    let contents = g.W.Write.contents in
    let bytes : Vec ℕ Global → List ℕ = λ report. report.items in
    let report = c.index-reports-before.result in
    appends_client bytes c.args.reports.now c.loop-before.before report report (contents c.args.out.now)
    (contents c.loop-before.out) (contents c.write_client.new.out)
    c.loop-before-test.true c.index-reports-before.is c.loop-before.invariant
    (rw c.as_slice.ensures.value at c.in_ok-write_client.ensures)

use Rattle.std.proofs.Common.{◌≡◌, Err, inr, rules}
use Rattle.ssb_files.proofs.ResultLaws.{on_ok_from, on_err_from}
use Rattle.run_command.specs.Demo.{IsOfScript, IsSmallReport}
use Rattle.run_command.specs.Status.{serving_status}
use Rattle.run_command.proofs.small_run.tell_report.Goals as goal

pub returns-in_err-report-clause-script : goal.returns-in_err-report-clause-script
returns-in_err-report-clause-script g c =
    let is : c.from_residual.result ≡ Err c.in_err-report.field-0.0 = search rules in
    let here : serving_status c.in_err-report.field-0.0 ≡ 1 → IsOfScript (g.I.Read.remaining c.args.input) =
    c.in_err-report.ensures.script in
    rw is here

pub returns-clause-report : goal.returns-clause-report
returns-clause-report g c =
    let is : IsSmallReport (g.I.Read.remaining c.args.input) c.as_slice.result.now = rw c.as_slice.ensures.value
    c.in_ok-report.ensures.report in
    on_ok_from c.print.result _ _ _ c.print.ensures.printed
    (λ written. record { report = c.as_slice.result.now; is_report = is; written = written })

pub returns-clause-fault : goal.returns-clause-fault
returns-clause-fault g c =
    let is : IsSmallReport (g.I.Read.remaining c.args.input) c.as_slice.result.now = rw c.as_slice.ensures.value
    c.in_ok-report.ensures.report in
    on_err_from c.print.result _ _ _ c.print.ensures.printed
    (λ written. inr (record { report = c.as_slice.result.now; is_report = is; written = written }))

use Rattle.std.proofs.Common.{◌≡◌, Err, inl, inr, rules}
use Rattle.ssb_files.proofs.ResultLaws.{if_ok_from}
use Rattle.ssb_script.specs.Requests.{requests_of}
use Rattle.run_command.specs.Demo.{IsOfScript}
use Rattle.run_command.specs.Status.{serving_status}
use Rattle.run_command.proofs.small_run.small_report.Goals as goal

pub returns-in_err-base-clause-script : goal.returns-in_err-base-clause-script
returns-in_err-base-clause-script g c =
    let is : c.from_residual.result ≡ Err c.in_err-base.field-0.0 = search rules in
    let here : serving_status c.in_err-base.field-0.0 ≡ 1 → IsOfScript (g.I.Read.remaining c.args.input) =
    λ status. inr (c.in_err-base.ensures.data status) in
    rw is here

pub returns-in-Ok-clause-report : goal.returns-in-Ok-clause-report
returns-in-Ok-clause-report g c =
    if_ok_from c.report_over.result _ _ c.report_over.ensures.report (λ report is. record {
      base = c.in_ok-base.base;
      loaded = c.in_ok-base.ensures.base;
      requests = requests_of c.in-Ok.script;
      asked = c.in-Ok.ensures.script;
      is_report = is;
    })

pub returns-in-Err-clause-script : goal.returns-in-Err-clause-script
returns-in-Err-clause-script g c status = inl (λ text is. record {
  fault = c.in-Err.fault;
  first = c.in-Err.ensures.fault text is;
  of_script = status;
})

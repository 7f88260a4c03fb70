use Rattle.std.proofs.Common.{◌≡◌, Err, inr, map, rules}
use Rattle.ssb_files.proofs.ResultLaws.{err_then, ok_then}
use Rattle.run_command.proofs.scripts.report.Goals as goal

pub returns-in_err-run-clause-refused : goal.returns-in_err-run-clause-refused
returns-in_err-run-clause-refused g c =
    let is : c.from_residual.result ≡ Err c.in_err-run.field-0.0 = search rules in
    rw is c.in_err-run.ensures.refused

pub returns-clause-served : goal.returns-clause-served
returns-clause-served g c =
    ok_then c.tell_run.result _ _ c.tell_run.ensures.told (λ told. record {
      reports = map (λ report. report.items) c.in_ok-run.run'.reports.items;
      trace = c.in_ok-run.run'.trace;
      served = c.in_ok-run.ensures.run;
      told = told;
    })

pub returns-clause-part : goal.returns-clause-part
returns-clause-part g c =
    err_then c.tell_run.result _ _ c.tell_run.ensures.part (λ told. inr (record {
      reports = map (λ report. report.items) c.in_ok-run.run'.reports.items;
      trace = c.in_ok-run.run'.trace;
      served = c.in_ok-run.ensures.run;
      told = told;
    }))

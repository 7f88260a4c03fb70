use Rattle.std.proofs.Common.{inr}
use Rattle.query_command.proofs.AskedReportsLaws.{reports_beside}
use Rattle.ssb_files.proofs.ResultLaws.{on_ok_from, on_err_from}
use Rattle.query_command.proofs.statement.report.Goals as goal

pub returns-clause-report : goal.returns-clause-report
returns-clause-report g c =
    on_ok_from c.write.result _ _ _ c.write.ensures.written (λ written. (
      _,
      reports_beside c.args.settings.format c.args.sourced.base c.args.sourced.after c.args.asked.now
          c.in_ok-answers.answers.items c.as_slice.result.now c.in_ok-reports.reports.items c.as_slice-2.result.now
          c.as_slice.ensures.value c.as_slice-2.ensures.value c.in_ok-answers.ensures c.in_ok-reports.ensures,
      written,
    ))

pub returns-clause-part : goal.returns-clause-part
returns-clause-part g c =
    on_err_from c.write.result _ _ _ c.write.ensures.written (λ written. inr (
      _,
      reports_beside c.args.settings.format c.args.sourced.base c.args.sourced.after c.args.asked.now
          c.in_ok-answers.answers.items c.as_slice.result.now c.in_ok-reports.reports.items c.as_slice-2.result.now
          c.as_slice.ensures.value c.as_slice-2.ensures.value c.in_ok-answers.ensures c.in_ok-reports.ensures,
      written,
    ))

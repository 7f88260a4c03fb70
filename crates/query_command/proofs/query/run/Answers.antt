use Rattle.std.proofs.Common.{inr}
use Rattle.query_command.proofs.query.run.Goals as goal

pub returns-in-Ok-report-clause-report : goal.returns-in-Ok-report-clause-report
returns-in-Ok-report-clause-report g c = λ status. record {
  base = c.in-Ok.sourced.base;
  after = c.in-Ok.sourced.after;
  held = c.in-Ok.ensures.base;
  is = c.in-Ok-report.ensures.written;
}

pub returns-in-Err-report-clause-fault : goal.returns-in-Err-report-clause-fault
returns-in-Err-report-clause-fault g c = λ status. inr (record {
  base = c.in-Ok.sourced.base;
  after = c.in-Ok.sourced.after;
  held = c.in-Ok.ensures.base;
  is = c.in-Err-report.ensures.written;
})

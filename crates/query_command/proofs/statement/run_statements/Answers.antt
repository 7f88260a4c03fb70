use Rattle.std.proofs.Common.{inl, inr}
use Rattle.query_command.proofs.statement.run_statements.Goals as goal

pub returns-in-Ok-report-clause-report : goal.returns-in-Ok-report-clause-report
returns-in-Ok-report-clause-report g c = λ status.
    let has = c.in-Ok-report.ensures.report in
    record {
      base = c.in-Ok-load.sourced.base;
      after = c.in-Ok-load.sourced.after;
      held = c.in-Ok-load.ensures.base;
      is = (c.as_slice.result.now, has.0, has.1, has.2);
    }

pub returns-clause-fault : goal.returns-clause-fault
returns-clause-fault g c = λ status.
    elim (c.in-Err-report.ensures.part) [
      | inl same ↦ inl same
      | inr has ↦ inr (record {
        base = c.in-Ok-load.sourced.base;
        after = c.in-Ok-load.sourced.after;
        held = c.in-Ok-load.ensures.base;
        is = (c.as_slice.result.now, has.0, has.1, has.2);
      })
    ]

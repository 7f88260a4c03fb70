use Rattle.std.proofs.Common.{inl, inr}
use Rattle.query_command.proofs.query.run_query.Goals as goal

pub returns-clause-report : goal.returns-clause-report
returns-clause-report g c = λ status.
    let over = c.run.ensures.report status in
    record {
      base = over.base;
      after = over.after;
      held = over.held;
      is = record { question = c.in-Ok.question; asked = c.in-Ok.ensures.question; appends = over.is };
    }

pub returns-clause-fault : goal.returns-clause-fault
returns-clause-fault g c = λ status.
    elim (c.run.ensures.fault status) [
      | inl same ↦ inl same
      | inr over ↦ inr (record {
        base = over.base;
        after = over.after;
        held = over.held;
        is = record { question = c.in-Ok.question; asked = c.in-Ok.ensures.question; appends = over.is };
      })
    ]

use Rattle.std.proofs.Common.{◌∙◌, inl, inr, sym}
use Rattle.audit_command.proofs.audit.run_audit.Goals as goal

pub returns-in-Err-report-clause-part : goal.returns-in-Err-report-clause-part
returns-in-Err-report-clause-part g c = λ _. elim c.in-Err-report.ensures.part [
  | inl same ↦ inl same
  | inr part ↦ inr (record {
    base = c.in-Ok.sourced.base;
    after = c.in-Ok.sourced.after;
    held = c.in-Ok.ensures.base;
    is = part;
  })
]

pub returns-in-Err-report-clause-against : goal.returns-in-Err-report-clause-against
returns-in-Err-report-clause-against g c = λ status. record {
  base = c.in-Ok.sourced.base;
  after = c.in-Ok.sourced.after;
  held = c.in-Ok.ensures.base;
  is = c.in-Err-report.ensures.against (sym c.tell.ensures ∙ status);
}

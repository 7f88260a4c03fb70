use Rattle.std.proofs.Common.{◌∙◌, inl, inr, sym}
use Rattle.run_command.proofs.scripts.run_scripts.Goals as goal

pub returns-in-Err-report-clause-part : goal.returns-in-Err-report-clause-part
returns-in-Err-report-clause-part g c = λ _. elim c.in-Err-report.ensures.part [
  | inl same ↦ inl same
  | inr part ↦ inr (record {
    base = c.in-Ok.sourced.base;
    after = c.in-Ok.sourced.after;
    held = c.in-Ok.ensures.base;
    is = part;
  })
]

pub returns-in-Err-report-clause-refused : goal.returns-in-Err-report-clause-refused
returns-in-Err-report-clause-refused g c = λ status.
    elim (c.in-Err-report.ensures.refused (sym c.tell-in-Err-report.ensures ∙ status)) [
      | inl script ↦ inr (inl script)
      | inr many ↦ inr (inr (record {
        base = c.in-Ok.sourced.base;
        after = c.in-Ok.sourced.after;
        held = c.in-Ok.ensures.base;
        is = many;
      }))
    ]

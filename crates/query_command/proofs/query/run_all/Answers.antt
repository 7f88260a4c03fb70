use Rattle.std.proofs.Common.{◌≡◌, ◌∙◌, inl, inr, subst}
use Rattle.std.specs.Io.KnownBytes.{Appends}
use Rattle.query_command.specs.Asked.{standard_questions}
use Rattle.query_command.specs.Reported.{answers_over}
use Rattle.ssb_formats.specs.Formats.{answers_shown}
use Rattle.ssb_text.specs.Written.{AppendsPart}
use Rattle.query_command.proofs.query.run_all.Goals as goal

pub returns-clause-report : goal.returns-clause-report
returns-clause-report g c = λ status.
    let same : c.as_slice.result.now ≡ standard_questions = c.as_slice.ensures.value ∙ c.in-Ok.ensures in
    let over = c.run.ensures.report status in
    record {
      base = over.base;
      after = over.after;
      held = over.held;
      is = subst (λ questions. Appends (g.W.Write.contents c.args.out.now) (g.W.Write.contents c.run.new.out)
          (answers_shown c.args.settings.format (answers_over over.base over.after questions))) same over.is;
    }

pub returns-clause-fault : goal.returns-clause-fault
returns-clause-fault g c = λ status.
    let same : c.as_slice.result.now ≡ standard_questions = c.as_slice.ensures.value ∙ c.in-Ok.ensures in
    elim (c.run.ensures.fault status) [
      | inl kept ↦ inl kept
      | inr over ↦ inr (record {
        base = over.base;
        after = over.after;
        held = over.held;
        is = subst (λ questions. AppendsPart (g.W.Write.contents c.args.out.now) (g.W.Write.contents c.run.new.out)
            (answers_shown c.args.settings.format (answers_over over.base over.after questions))) same over.is;
      })
    ]

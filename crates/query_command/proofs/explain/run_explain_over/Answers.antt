use Rattle.std.proofs.Common.{◌≡◌, ◌∙◌, inr, subst}
use Rattle.std.specs.Io.KnownBytes.{Appends}
use Rattle.query_command.specs.Explained.{sized_text}
use Rattle.ssb_text.specs.Written.{AppendsPart}
use Rattle.query_command.proofs.explain.run_explain_over.Goals as goal

pub returns-in-Ok-write_text-clause-explained : goal.returns-in-Ok-write_text-clause-explained
returns-in-Ok-write_text-clause-explained g c = λ status.
    let text : c.as_str.result.now ≡ sized_text c.in-Ok.question c.in-Ok-load.sourced.base.dimensions
    = c.as_str.ensures.value ∙ c.in-Ok-sized.ensures in
    record {
      base = c.in-Ok-load.sourced.base;
      after = c.in-Ok-load.sourced.after;
      held = c.in-Ok-load.ensures.base;
      is = record {
        question = c.in-Ok.question;
        asked = c.in-Ok.ensures.question;
        appends = subst (Appends (g.W.Write.contents c.args.out.now) (g.W.Write.contents c.write_text.new.out)) text
            c.in-Ok-write_text.ensures.written;
      };
    }

pub returns-clause-fault : goal.returns-clause-fault
returns-clause-fault g c = λ status.
    let text : c.as_str.result.now ≡ sized_text c.in-Ok.question c.in-Ok-load.sourced.base.dimensions
    = c.as_str.ensures.value ∙ c.in-Ok-sized.ensures in
    inr (record {
      base = c.in-Ok-load.sourced.base;
      after = c.in-Ok-load.sourced.after;
      held = c.in-Ok-load.ensures.base;
      is = record {
        question = c.in-Ok.question;
        asked = c.in-Ok.ensures.question;
        appends = subst (AppendsPart (g.W.Write.contents c.args.out.now) (g.W.Write.contents c.write_text.new.out)) text
            c.in-Err-write_text.ensures.written;
      };
    })

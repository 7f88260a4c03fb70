use Rattle.std.proofs.Common.{◌∷◌, map, ap, sym, subst, ◌∙◌}
use Rattle.std.specs.Option.{option_map}
use Rattle.ssb_trace.specs.Lines.{Answer, Row}
use Rattle.ssb_trace.specs.Steps.{Takes}
use Rattle.ssb_trace.proofs.unfinished.begin_answer.Goals as goal

pub returns-in_ok-kinds-in-Some-clause-step : goal.returns-in_ok-kinds-in-Some-clause-step
returns-in_ok-kinds-in-Some-clause-step c =
    let head = c.in-Some.head in (
      Answer head,
      ap (option_map Answer) (sym c.in_ok-head.ensures ∙ c.in-Some.is),
      subst (λ rows. Takes c.args.number (Answer head ∷ map (Row head.question) rows) c.step.result)
          (c.from_vec-rows.ensures ∙ c.new.ensures.items) (c.step.ensures c.args.number),
    )

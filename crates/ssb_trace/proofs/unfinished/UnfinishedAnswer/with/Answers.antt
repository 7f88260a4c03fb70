use Rattle.std.proofs.Common.{◌≡◌, ◌++◌, ◌∷◌, [], map, ap, ◌∙◌, subst}
use Rattle.std.proofs.lemmas.List.{map_push}
use Rattle.ssb_trace.specs.Lines.{Answer, Row}
use Rattle.ssb_trace.specs.Steps.{Takes}
use Rattle.ssb_trace.proofs.unfinished.UnfinishedAnswer.with.Goals as goal

pub returns-clause-step : goal.returns-clause-step
returns-clause-step c =
    let head = c.args.self.head in
    let rows : c.from_vec-rows.result ≡ c.args.self.rows ++ c.args.row ∷ [] =
    c.from_vec-rows.ensures ∙ (c.in_ok-push.ensures.items
    ∙ ap (λ rows. rows ++ c.args.row ∷ []) c.into_vec-rows.ensures) in
    let lines = ap (map (Row head.question)) rows ∙ map_push (Row head.question) c.args.self.rows c.args.row in
    λ number. subst (λ lines. Takes number (Answer head ∷ lines) c.step.result) lines (c.step.ensures number)

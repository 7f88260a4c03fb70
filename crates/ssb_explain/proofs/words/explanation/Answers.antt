use Rattle.std.proofs.Common.{◌≡◌, ◌∙◌, ap}
use Rattle.std.specs.Prelude.{string_bytes}
use Rattle.std.proofs.lemmas.Result.{IfOk-weaker}
use Rattle.ssb_questions.specs.Queries.{plan_over}
use Rattle.ssb_explain.specs.Words as spec
use Rattle.ssb_explain.proofs.words.explanation.Goals as goal

pub returns : goal.returns
returns c =
    let asked = c.args.question.now.0 in
    let constants = c.args.question.now.1 in
    let same = ap (λ plan. spec.explanation_text asked constants plan) c.in_ok-plan.ensures.plan in
    IfOk-weaker c.explained.result _
    (λ text. string_bytes text ≡ spec.explanation_text asked constants (plan_over asked constants))
    (λ text is. is ∙ same) c.explained.ensures

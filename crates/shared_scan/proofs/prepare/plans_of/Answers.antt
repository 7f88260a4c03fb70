use Rattle.std.proofs.Common.{◌≡◌, List, [], ◌∷◌, ◌++◌, map, take, get_or, sym, ap, subst, ◌∙◌}
use Rattle.std.specs.Prelude.{All}
use Rattle.std.proofs.lemmas.List.{take_more, map_push}
use Rattle.std.proofs.lemmas.List.Elements.{All-push}
use Rattle.ssb_questions.specs.declared.plan.Plan.{Plan}
use Rattle.ssb_questions.specs.declared.query.Query.{Query}
use Rattle.ssb_questions.specs.declared.value.Value.{Value}
use Rattle.ssb_questions.specs.Queries.{plan_over}
use Rattle.shared_scan.proofs.PlanLaws.{HasFewColumns}
use Rattle.shared_scan.proofs.prepare.plans_of.Goals as goal

pub loop-question-preserved : goal.loop-question-preserved
loop-question-preserved c =
    let plan_of : Query × List Value → Plan = λ question. plan_over question.0 question.1 in
    let questions = c.args.questions.now in
    let i = c.loop-question.question-index in
    let item = c.question-item.result in
    let question = get_or questions i item in
    let plan : c.in_ok-plan.field-0 ≡ plan_of question = c.in_ok-plan.ensures.plan ∙ ap plan_of c.question-item.is in
    let one = c.in_ok-plan.field-0 in
    record {
      are = c.in_ok-push.ensures.items ∙ (λ j. c.loop-question.invariant.are j ++ plan j ∷ [])
          ∙ sym (map_push plan_of (take i questions) question)
          ∙ ap (map plan_of) (sym (take_more questions i item c.loop-question-test.true));
      four = subst (All HasFewColumns) (sym c.in_ok-push.ensures.items)
          (All-push HasFewColumns c.loop-question.plans.items one c.loop-question.invariant.four c.in_ok-plan.ensures.few);
    }

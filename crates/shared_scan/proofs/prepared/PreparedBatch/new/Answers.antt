use Rattle.std.proofs.Common.{ℕ, ◌≡◌, ◌+◌, ◌<◌, List, [], ◌∷◌, ◌++◌, length, drop, get_or, Some, sym, ap, subst, ◌∙◌}
use Rattle.std.proofs.Common.{arith, refl}
use Rattle.std.specs.Prelude.{All, slice_get}
use Rattle.std.proofs.lemmas.List.{length-append}
use Rattle.std.proofs.lemmas.List.Elements.{All-head, All-tail}
use Rattle.std.proofs.lemmas.Option.{slice_get_within}
use Rattle.ssb_base.specs.Base.{Tables}
use Rattle.dimension_index.specs.Classes.{reduced}
use Rattle.ssb_questions.specs.declared.query.Query.{Query}
use Rattle.ssb_questions.specs.declared.value.Value.{Value}
use Rattle.ssb_questions.specs.Queries.{plan_over}
use Rattle.shared_scan.specs.Prepared.{AreMasksOf}
use Rattle.shared_scan.specs.Batch.{IsReady, AreReady, plans_of, questions_of}
use Rattle.shared_scan.specs.declared.ready.Ready.{Ready}
use Rattle.shared_scan.proofs.BatchLaws.{few_values, ready_more, questions_are}
use Rattle.shared_scan.proofs.PlanLaws.{all_planned, HasFewColumns, next_plan}
use Rattle.shared_scan.proofs.prepared.PreparedBatch.new.Goals as goal

pub loop-plan-init : goal.loop-plan-init
loop-plan-init c =
    let questions = c.args.questions.now in
    let gives = c.into_iter-plan-iterator.ensures.into_iter_gives in
    let none : c.in_ok-all.all.items ≡ [] = c.in_ok-all.ensures.items in
    let P : List Ready → Type 0 = λ xs. c.into_iter-plan-iterator.result.rest.items ≡ plans_of
    (drop (length xs) questions) in
    record {
      within = omega (arith, ap length none);
      plans = subst P (sym none) (gives.0 ∙ c.in_ok-plans.ensures.are);
      four = subst (All HasFewColumns) (sym gives.0) c.in_ok-plans.ensures.few;
      ready = λ k question r below at. absurd (omega (arith, below, ap length none));
    }

pub prepare_question-requires-clause-few : goal.prepare_question-requires-clause-few
prepare_question-requires-clause-few c = few_values c.first_rows-rows.result.now c.soundness-2.ensures

pub prepare_question-requires-clause-plan : goal.prepare_question-requires-clause-plan
prepare_question-requires-clause-plan c =
    let next = next_plan c.args.questions.now (length c.loop-plan.all.items) c.in-Some.plan c.next.new.self.rest.items
    (sym c.in-Some.ensures.steps.0 ∙ c.loop-plan.invariant.plans) in
    let item = c.index-questions-number.result in
    let count : c.len-number.result ≡ length c.loop-plan.all.items =
    omega (arith, c.len-number.ensures, c.loop-plan.all.ok) in
    let is : item ≡ get_or c.args.questions.now (length c.loop-plan.all.items) item = c.index-questions-number.is
    ∙ ap (λ (i : ℕ). get_or c.args.questions.now i item) count in
    next.1 item ∙ ap (λ (q : Query × List Value). plan_over q.0 q.1) (sym is)

pub prepare_question-requires-clause-four : goal.prepare_question-requires-clause-four
prepare_question-requires-clause-four c =
    All-head HasFewColumns c.in-Some.plan c.next.new.self.rest.items
    (subst (All HasFewColumns) c.in-Some.ensures.steps.0 c.loop-plan.invariant.four)

pub loop-plan-preserved : goal.loop-plan-preserved
loop-plan-preserved c =
    let base : Tables = reduced c.args.columns.now.base in
    let masks = c.in_ok-masks.masks in
    let questions = c.args.questions.now in
    let all = c.loop-plan.all.items in
    let n = length all in
    let later = c.next.new.self.rest.items in
    let item = c.index-questions-number.result in
    let made : Ready = c.in_ok-prepare_question.field-0 in
    let next = next_plan questions n c.in-Some.plan later
    (sym c.in-Some.ensures.steps.0 ∙ c.loop-plan.invariant.plans) in
    let count : c.len-number.result ≡ n = omega (arith, c.len-number.ensures, c.loop-plan.all.ok) in
    let is : item ≡ get_or questions n item = c.index-questions-number.is
    ∙ ap (λ (i : ℕ). get_or questions i item) count in
    let ready : IsReady base masks c.len-number.result item made = rw (c.first_rows-rows.ensures, c.index.ensures) at
    c.in_ok-prepare_question.ensures in
    let one : IsReady base masks n item made = subst (λ (i : ℕ). IsReady base masks i item made) count ready in
    let items : c.push.new.self.items ≡ all ++ made ∷ [] = c.in_ok-push.ensures.items in
    let more : length c.push.new.self.items ≡ n + 1 = ap length items ∙ length-append all (made ∷ []) in
    let R : ℕ → Type 0 = λ m. later ≡ plans_of (drop m questions) in
    let P : List Ready → Type 0 = λ xs. (k : ℕ) (question : Query × List Value) (r : Ready) → k < length xs
    → slice_get questions k ≡ Some question → IsReady base masks k question (get_or xs k r) in
    record {
      within = omega (arith, more, next.0);
      plans = subst R (sym more) next.2;
      four = All-tail HasFewColumns c.in-Some.plan later
          (subst (All HasFewColumns) c.in-Some.ensures.steps.0 c.loop-plan.invariant.four);
      ready = subst P (sym items) (λ k question r below at. ready_more base masks questions all n item made refl next.0
          is one c.loop-plan.invariant.ready k question r
          (omega (arith, below, length-append all (made ∷ []))) at);
    }

pub invariant_of-result : goal.invariant_of-result
invariant_of-result c =
    let base : Tables = reduced c.args.columns.now.base in
    let masks = c.in_ok-masks.masks in
    let questions = c.args.questions.now in
    let all = c.loop-plan.all.items in
    let none : length c.loop-plan.plan-iterator.rest.items ≡ 0 =
    omega (arith, c.in-None.ensures.steps.0, c.loop-plan.plan-iterator.rest.ok) in
    let count : length all ≡ length questions = all_planned questions (length all)
    c.loop-plan.plan-iterator.rest.items c.loop-plan.invariant.within none
    c.loop-plan.invariant.plans in
    let ready : AreReady base masks questions all = λ k question r at. c.loop-plan.invariant.ready k question r
    (omega (arith, slice_get_within questions k question at, count)) at in
    let same : questions_of all ≡ questions = questions_are base masks questions all count ready in
    let tell = rw (c.deref.ensures.value, c.in_ok-plans.ensures.are, c.first_rows-rows.ensures, c.index.ensures) at
    c.in_ok-masks.ensures.tell in
    let cover = rw (c.first_rows-rows.ensures, c.index.ensures) at c.in_ok-masks.ensures.cover in
    let P : List (Query × List Value) → Type 0 = λ qs. AreMasksOf (plans_of qs) base.dimensions masks in
    let R : List (Query × List Value) → Type 0 = λ qs. AreReady base masks qs all in
    record {
      small = omega (
        arith,
        c.soundness.ensures c.requires.snapshot.history c.requires.snapshot.stands,
        c.requires.snapshot.few,
      );
      few = omega (arith, c.requires.few, count);
      masks_tell = subst P (sym same) tell;
      masks_cover = cover;
      ready = subst R (sym same) ready;
    }

pub returns : goal.returns
returns c =
    let base : Tables = reduced c.args.columns.now.base in
    let masks = c.in_ok-masks.masks in
    let questions = c.args.questions.now in
    let all = c.loop-plan.all.items in
    let none : length c.loop-plan.plan-iterator.rest.items ≡ 0 =
    omega (arith, c.in-None.ensures.steps.0, c.loop-plan.plan-iterator.rest.ok) in
    let count : length all ≡ length questions = all_planned questions (length all)
    c.loop-plan.plan-iterator.rest.items c.loop-plan.invariant.within none
    c.loop-plan.invariant.plans in
    let ready : AreReady base masks questions all = λ k question r at. c.loop-plan.invariant.ready k question r
    (omega (arith, slice_get_within questions k question at, count)) at in
    record {
      prepared = ap (λ (qs : List (Query × List Value)). record { columns = c.args.columns.now; questions = qs })
          (questions_are base masks questions all count ready);
    }

use Rattle.std.proofs.Common.{◌≡◌, rules, ◌++◌, ◌∷◌, length, Err, List, [], sym, subst, ap, ◌∙◌}
use Rattle.std.specs.Prelude.{is_some}
use Rattle.std.proofs.lemmas.List.{append-nil, nil_from_length, take-append-drop}
use Rattle.std.proofs.lemmas.List.Elements.{All-push, All-same}
use Rattle.std.proofs.lemmas.List.Quantifiers.{position-Some}
use Rattle.ssb_base.specs.Base.{Tables}
use Rattle.ssb_questions.specs.declared.query.Query.{Query}
use Rattle.ssb_questions.specs.declared.query.Query.TheVariants.{Q1_1}
use Rattle.ssb_questions.specs.declared.value.Value.{Value}
use Rattle.fact_columns.specs.Watching.{live_lines}
use Rattle.shared_scan.specs.Follows.{FollowsOver}
use Rattle.shared_scan.specs.GroupCounts.{HasFewGroups, IsFirstOfMany, has_many_groups}
use Rattle.shared_scan.specs.declared.standing.Standing.{Standing}
use Rattle.shared_scan.proofs.FoundLaws.{same_place as same_number}
use Rattle.standing_columns.specs.Standing.{each_once, questions_in}
use Rattle.standing_columns.proofs.OnceLaws.{few_asked, first_placed, first_refused, same_place}
use Rattle.standing_columns.proofs.StandingLaws.{few_more, questions_more}
use Rattle.standing_columns.proofs.questions.StandingQuestions.new.Goals as goal

pub bounds-batch-number : goal.bounds-batch-number
bounds-batch-number g c =
    let batch : List (Query × List Value) = c.split_at.result.0.now in
    let arm = c.in-TooManyGroups in
    (position-Some (has_many_groups c.args.columns.now.base) batch arm.number (Q1_1, [])
    (c.in-Err.ensures.too_many arm.number (ap Err arm.is))).0

pub unwrap-place-requires : goal.unwrap-place-requires
unwrap-place-requires g c =
    let base : Tables = c.args.columns.now.base in
    let asked : List (Query × List Value) = c.args.questions.now in
    let arm = c.in-TooManyGroups in
    let refused = c.index-batch-number.result in
    ap is_some c.place_of.ensures ∙ first_placed (has_many_groups base) asked refused (first_refused base asked
    (questions_in c.loop-rest.batches.items) c.loop-rest.rest.now c.split_at.result.0.now c.split_at.result.1.now
    c.min.result arm.number refused c.split_at.ensures.front c.split_at.ensures.back c.loop-rest.invariant.questions
    c.loop-rest.invariant.few (c.in-Err.ensures.too_many arm.number (ap Err arm.is)) c.index-batch-number.is)

pub returns-in-TooManyGroups-clause-too_many : goal.returns-in-TooManyGroups-clause-too_many
returns-in-TooManyGroups-clause-too_many g c = λ place same.
    let base : Tables = c.args.columns.now.base in
    let asked : List (Query × List Value) = c.args.questions.now in
    let arm = c.in-TooManyGroups in
    let refused = c.index-batch-number.result in
    let first = first_refused base asked (questions_in c.loop-rest.batches.items) c.loop-rest.rest.now
    c.split_at.result.0.now c.split_at.result.1.now c.min.result arm.number refused c.split_at.ensures.front
    c.split_at.ensures.back c.loop-rest.invariant.questions c.loop-rest.invariant.few
    (c.in-Err.ensures.too_many arm.number (ap Err arm.is)) c.index-batch-number.is in
    let found : IsFirstOfMany base asked c.unwrap-place.result = sym (same_place (has_many_groups base) asked
    refused first) ∙ sym c.place_of.ensures ∙ c.unwrap-place.ensures in
    subst (IsFirstOfMany base asked) (same_number c.unwrap-place.result place same) found

pub loop-rest-preserved : goal.loop-rest-preserved
loop-rest-preserved g c =
    let base : Tables = c.args.columns.now.base in
    let asked : List (Query × List Value) = c.args.questions.now in
    let rest : List (Query × List Value) = c.loop-rest.rest.now in
    let batch : List (Query × List Value) = c.split_at.result.0.now in
    let later : List (Query × List Value) = c.split_at.result.1.now in
    let batches : List Standing = c.loop-rest.batches.items in
    let more : List Standing = c.push.new.self.items in
    let one : Standing = c.in-Ok.standing in
    let grown : more ≡ batches ++ one ∷ [] = c.in_ok-push-in-Ok.ensures.items in
    let parted : rest ≡ batch ++ later = sym ((λ i. c.split_at.ensures.front i ++ c.split_at.ensures.back i)
    ∙ take-append-drop c.min.result rest) in
    let P : Standing → Type 0 = λ standing. FollowsOver standing base (live_lines c.args.columns.now.places) in
    record {
      questions = questions_more batches more one rest batch later (each_once asked) grown c.in-Ok.ensures.questions
          parted c.loop-rest.invariant.questions;
      few = few_more base batches more one batch grown c.in-Ok.ensures.questions c.loop-rest.invariant.few
          c.in-Ok.ensures.few_groups;
      follow = All-same P more (batches ++ one ∷ []) grown (All-push P batches one c.loop-rest.invariant.follow
          c.in-Ok.ensures.follows);
    }

pub returns-clause-few_groups : goal.returns-clause-few_groups
returns-clause-few_groups g c =
    let base : Tables = c.args.columns.now.base in
    let asked : List (Query × List Value) = c.args.questions.now in
    let rest : List (Query × List Value) = c.loop-rest.rest.now in
    let done : List (Query × List Value) = questions_in c.loop-rest.batches.items in
    let none : length rest ≡ 0 = search rules in
    let whole : each_once asked ≡ done = sym (sym (append-nil done) ∙ ap (λ l. done ++ l) (sym (nil_from_length rest
    none)) ∙ c.loop-rest.invariant.questions) in
    few_asked base asked (All-same (HasFewGroups base) (each_once asked) done whole c.loop-rest.invariant.few)

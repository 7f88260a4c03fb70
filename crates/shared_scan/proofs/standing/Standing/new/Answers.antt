use Rattle.std.proofs.Common.{◌≡◌, ℕ, List, Option, Some, None, sym, subst, ◌∙◌}
use Rattle.std.specs.Prelude.{position}
use Rattle.ssb_base.specs.Base.{Tables}
use Rattle.ssb_questions.specs.declared.query.Query.{Query}
use Rattle.ssb_questions.specs.declared.value.Value.{Value}
use Rattle.shared_scan.specs.GroupCounts.{IsFirstOfMany, has_many_groups}
use Rattle.shared_scan.proofs.FoundLaws.{few_unless_many, many_found, same_place}
use Rattle.shared_scan.proofs.standing.Standing.new.Goals as goal

pub returns-in-Some-clause-too_many : goal.returns-in-Some-clause-too_many
returns-in-Some-clause-too_many g c = λ place same.
    let own = c.in_ok-standing.standing.batch.value in
    let asked : List (Query × List Value) = c.args.questions.now in
    let base : Tables = c.args.columns.now.base in
    let P : List (Query × List Value) → Type 0 = λ questions. position (has_many_groups own.index.value) questions
    ≡ Some c.in-Some.number in
    let Q : Tables → Type 0 = λ b. position (has_many_groups b) asked ≡ Some c.in-Some.number in
    let found : IsFirstOfMany base asked c.in-Some.number = subst Q c.in_ok-standing.ensures.base
    (subst P c.in_ok-standing.ensures.questions (sym (many_found own.index.value own.masks own.questions.items
    c.in_ok-standing.ensures.follows.masks_tell c.in_ok-standing.ensures.follows.ready)
    ∙ sym c.in-Some.ensures)) in
    subst (IsFirstOfMany base asked) (same_place c.in-Some.number place same) found

pub returns-in-None-clause-few_groups : goal.returns-in-None-clause-few_groups
returns-in-None-clause-few_groups g c =
    let own = c.in_ok-standing.standing.batch.value in
    let asked : List (Query × List Value) = c.args.questions.now in
    let base : Tables = c.args.columns.now.base in
    let none : Option ℕ = None in
    let P : List (Query × List Value) → Type 0 = λ questions. position (has_many_groups own.index.value) questions
    ≡ none in
    let Q : Tables → Type 0 = λ b. position (has_many_groups b) asked ≡ none in
    few_unless_many base asked (subst Q c.in_ok-standing.ensures.base
    (subst P c.in_ok-standing.ensures.questions (sym (many_found own.index.value own.masks own.questions.items
    c.in_ok-standing.ensures.follows.masks_tell c.in_ok-standing.ensures.follows.ready)
    ∙ sym c.in-None.ensures)))

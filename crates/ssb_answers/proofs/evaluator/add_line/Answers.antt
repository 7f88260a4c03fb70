-- A line has at most one combination, which is added at its group where it passes.
use Rattle.std.proofs.Common.{◌≡◌, ◌∷◌, [], ◌∙◌, List, ap, sym, subst, arith}
use Rattle.std.specs.Prelude.{ℤ, filter}
use Rattle.std.specs.Int.{w64, cast_signed, cast_unsigned}
use Rattle.std.proofs.lemmas.Int.{ints}
use Rattle.ssb_schema.specs.Facts.{fact_of}
use Rattle.ssb_schema.specs.declared.fact.Fact.{Fact}
use Rattle.ssb_questions.specs.declared.value.Value.{Value}
use Rattle.ssb_answers.specs.Combination.{Combination, joined_with, passes}
use Rattle.ssb_answers.specs.Answer.{amount, group_of}
use Rattle.ssb_answers.specs.Totals.{Adds, AddsAll, IsAmount}
use Rattle.ssb_answers.specs.Joined.{combination_of}
use Rattle.ssb_answers.proofs.TotalLaws.{keeps_one_line, room, adds_one_line, adds_combination}
use Rattle.ssb_answers.proofs.evaluator.add_line.Goals as goal

pub returns-in_default-clause-within : goal.returns-in_default-clause-within
returns-in_default-clause-within c = keeps_one_line c.args.totals.now

pub add-requires : goal.add-requires
add-requires c =
    let same : cast_signed w64 (cast_unsigned w64 c.amount.result) ≡ c.amount.result = omega (arith, ints) in
    room c.args.totals.now c.in_ok-groups.groups _ c.requires.room (subst IsAmount (sym same) c.amount.ensures.bounded)

pub returns-clause-totals : goal.returns-clause-totals
returns-clause-totals c =
    let plan = c.args.plan.now in
    let combination : Combination = combination_of c.in-Some.joined in
    let more_is : filter (passes plan) (joined_with c.args.base.now.dimensions (fact_of c.args.line.now)) ≡ combination
    ∷ [] =
    ap (λ (f : Fact). filter (passes plan) (joined_with c.args.base.now.dimensions f)) (sym c.fact-fact.ensures.value)
    ∙ c.in-Some.ensures.combination in
    let same_amount : cast_signed w64 (cast_unsigned w64 c.amount.result) ≡ amount plan.measure c.fact-fact.result
    = omega (arith, ints) in
    let amount_is : cast_signed w64 (cast_unsigned w64 c.amount.result) ≡ amount plan.measure combination.fact =
    same_amount ∙ ap (amount plan.measure) (sym c.in-Some.ensures.line) in
    let adds : Adds c.args.totals.now c.add.new.totals (group_of plan combination)
    (amount plan.measure combination.fact) =
    subst (λ (a : ℤ). Adds c.args.totals.now c.add.new.totals (group_of plan combination) a) amount_is
    (subst (λ (g : List Value). Adds c.args.totals.now c.add.new.totals g
    (cast_signed w64 (cast_unsigned w64 c.amount.result))) c.in_ok-groups.ensures c.in_ok-add.ensures) in
    subst (λ (more : List Combination). AddsAll plan more c.args.totals.now c.add.new.totals) (sym more_is)
    (adds_combination plan c.args.totals.now c.add.new.totals combination adds)

pub returns-clause-within : goal.returns-clause-within
returns-clause-within c =
    let same : cast_signed w64 (cast_unsigned w64 c.amount.result) ≡ c.amount.result = omega (arith, ints) in
    adds_one_line c.args.totals.now c.add.new.totals c.in_ok-groups.groups
    (cast_signed w64 (cast_unsigned w64 c.amount.result))
    (subst IsAmount (sym same) c.amount.ensures.bounded) c.in_ok-add.ensures

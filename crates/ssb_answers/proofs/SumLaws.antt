use Rattle.std.proofs.Common.{arith}
-- The sum of a group as combinations are added one after another.
use Rattle.std.proofs.Common.{◌≡◌, List, [], ◌∷◌, ◌++◌, cond, Some, refl, ap, ◌∙◌}
use Rattle.std.specs.Prelude.{pos, ◌+ℤ◌, filter, unwrap_or}
use Rattle.std.specs.Ordering.{is_eq}
use Rattle.std.proofs.lemmas.Grind.{flat_map-append}
use Rattle.std.proofs.lemmas.List.{append-nil}
use Rattle.std.proofs.lemmas.List.Elements.{filter-append}
use Rattle.std.proofs.lemmas.List.Sums.{fold_push}
use Rattle.ssb_questions.specs.declared.value.Value.{Value}
use Rattle.ssb_questions.specs.declared.plan.Measure.{Measure}
use Rattle.ssb_questions.specs.declared.plan.Plan.{Plan}
use Rattle.ssb_base.specs.Base.{Dimensions}
use Rattle.ssb_schema.specs.declared.fact.Fact.{Fact}
use Rattle.ssb_answers.specs.Combination.{Combination, joined, joined_with, passes, combinations}
use Rattle.ssb_answers.specs.Answer.{amount, sum_over, in_group, group_of, groups_cmp}

pub sum_over_push : (measure : Measure) (found : List Combination) (c : Combination)
    → sum_over measure (found ++ c ∷ []) ≡ Some (unwrap_or (sum_over measure found) (pos 0) +ℤ amount measure c.fact)
sum_over_push measure [] c = refl
sum_over_push measure (x ∷ xs) c = ap Some
    (fold_push (λ sum combination. sum +ℤ amount measure combination.fact) (pos 0) (x ∷ xs) c)

-- one combination more changes the sum of its group alone
pub group_sum_push : (plan : Plan) (found : List Combination) (c : Combination) (groups : List Value)
    → sum_over plan.measure (in_group plan groups (found ++ c ∷ []))
    ≡ cond (is_eq (groups_cmp (group_of plan c) groups))
    (Some (unwrap_or (sum_over plan.measure (in_group plan groups found)) (pos 0) +ℤ amount plan.measure c.fact))
    (sum_over plan.measure (in_group plan groups found))
group_sum_push plan found c groups = grind (arith, filter-append, sum_over_push, append-nil)

-- one line more adds its own combinations
pub combinations_push : (plan : Plan) (dimensions : Dimensions) (facts : List Fact) (fact : Fact)
    → combinations plan dimensions (facts ++ fact ∷ []) ≡ combinations plan dimensions facts
    ++ filter (passes plan) (joined_with dimensions fact)
combinations_push plan dimensions facts fact = grind (arith, flat_map-append, append-nil, filter-append)

-- the combinations over lines in two parts
pub combinations-append : (plan : Plan) (dimensions : Dimensions) (facts more : List Fact)
    → combinations plan dimensions (facts ++ more) ≡ combinations plan dimensions facts
    ++ combinations plan dimensions more
combinations-append plan dimensions facts more =
    ap (filter (passes plan)) (flat_map-append (joined_with dimensions) facts more)
    ∙ filter-append (passes plan) (joined dimensions facts) (joined dimensions more)

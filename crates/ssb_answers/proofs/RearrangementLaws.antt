-- The answer does not depend on the order of the lines.
use Rattle.std.proofs.Common.{ℕ, ◌≡◌, ◌+◌, zero, suc, List, [], ◌∷◌, Bool, Option, None, Some, sym, refl, ap, ◌∙◌}
use Rattle.std.proofs.Common.{arith}
use Rattle.std.specs.Prelude.{ℤ, pos, ◌+ℤ◌, ◌-ℤ◌, filter, IsPermutation}
use Rattle.std.specs.List.{fold, flat_map, sum_by}
use Rattle.std.specs.Ordering.{is_eq}
use Rattle.std.proofs.lemmas.List.Elements.{filter-append}
use Rattle.std.proofs.lemmas.List.Sums.{sum_by-cons, sum_by-append}
use Rattle.std.proofs.lemmas.List.Sorted.{sum_by-IsPermutation}
use Rattle.ssb_questions.specs.declared.value.Value.{Value}
use Rattle.ssb_questions.specs.declared.plan.Measure.{Measure}
use Rattle.ssb_questions.specs.declared.plan.Plan.{Plan}
use Rattle.ssb_base.specs.Base.{Dimensions}
use Rattle.ssb_schema.specs.declared.fact.Fact.{Fact}
use Rattle.ssb_answers.specs.Combination.{Combination, joined_with, passes, combinations}
use Rattle.ssb_answers.specs.Answer.{amount, sum_over, in_group, group_of, groups_cmp, answer}
use Rattle.ssb_questions.specs.Plan.{OrdersAllGroups}
use Rattle.ssb_questions.specs.Queries.{plan_over}
use Rattle.ssb_answers.specs.Sums.{gain, loss}
use Rattle.ssb_answers.proofs.AmountLaws.{fold_is, plain_zero}
use Rattle.ssb_answers.proofs.RowLaws.{rows_from_sums}
use Rattle.ssb_questions.proofs.OrderLaws.{orders_all_groups}
use Rattle.ssb_answers.specs.Laws.{QuestionsIgnoreOrder}

-- the sum over a number of combinations, from what they gain and lose together
abbrev sum_from : ℕ → ℕ → ℕ → Option ℤ
sum_from zero gains losses = None
sum_from (suc n) gains losses = Some (pos gains -ℤ pos losses)

sum_over_is : (measure : Measure) (cs : List Combination)
    → sum_over measure cs
    ≡ sum_from (sum_by (λ _. 1) cs) (sum_by (λ c. gain measure c.fact) cs) (sum_by (λ c. loss measure c.fact) cs)
sum_over_is measure [] = refl
sum_over_is measure (c ∷ cs) =
    ap Some (ap (λ (z : ℤ). fold (λ sum c. sum +ℤ amount measure c.fact) z (c ∷ cs)) zero_is
    ∙ fold_is (λ combination. combination.fact) measure (c ∷ cs) 0 0
    ∙ plain_zero (sum_by (λ c. gain measure c.fact) (c ∷ cs)) (sum_by (λ c. loss measure c.fact) (c ∷ cs)))
    ∙ sym (some_of _ (sum_by (λ _. 1) cs) _ _ (sum_by-cons (λ _. 1) c cs))
  where
    zero_is : pos 0 ≡ pos 0 -ℤ pos 0
    zero_is = refl

    some_of : (n m gains losses : ℕ) → n ≡ 1 + m → sum_from n gains losses ≡ Some (pos gains -ℤ pos losses)
    some_of zero m gains losses e = absurd (omega (arith, e))
    some_of (suc n) m gains losses e = refl

module _ {X A : Type 0} (f : X → List A) (p q : A → Bool) (h : A → ℕ) where
  -- a sum over what two filters leave of pieces is the sum over the pieces
  sum_by_pieces : (xs : List X)
      → sum_by h (filter p (filter q (flat_map f xs))) ≡ sum_by (λ x. sum_by h (filter p (filter q (f x)))) xs
  sum_by_pieces [] = refl
  sum_by_pieces (x ∷ xs) =
      ap (λ ys. sum_by h (filter p ys)) (filter-append q (f x) (flat_map f xs))
      ∙ ap (sum_by h) (filter-append p (filter q (f x)) (filter q (flat_map f xs)))
      ∙ sum_by-append h (filter p (filter q (f x))) (filter p (filter q (flat_map f xs)))
      ∙ ap (λ (n : ℕ). sum_by h (filter p (filter q (f x))) + n) (sum_by_pieces xs)
      ∙ sym (sum_by-cons (λ x. sum_by h (filter p (filter q (f x)))) x xs)

module _ (plan : Plan) (dimensions : Dimensions) (facts other : List Fact) (moved : IsPermutation facts other) where
  same_sum_by : (groups : List Value) (h : Combination → ℕ)
      → sum_by h (in_group plan groups (combinations plan dimensions facts))
      ≡ sum_by h (in_group plan groups (combinations plan dimensions other))
  same_sum_by groups h =
      let p = λ (c : Combination). is_eq (groups_cmp (group_of plan c) groups) in
      sum_by_pieces (joined_with dimensions) p (passes plan) h facts
      ∙ sym (sum_by-IsPermutation
      (λ fact. sum_by h (filter p (filter (passes plan) (joined_with dimensions fact)))) facts other moved)
      ∙ sym (sum_by_pieces (joined_with dimensions) p (passes plan) h other)

  same_sums : (groups : List Value)
      → sum_over plan.measure (in_group plan groups (combinations plan dimensions facts))
      ≡ sum_over plan.measure (in_group plan groups (combinations plan dimensions other))
  same_sums groups =
      sum_over_is plan.measure (in_group plan groups (combinations plan dimensions facts))
      ∙ (λ i. sum_from (same_sum_by groups (λ _. 1) i) (same_sum_by groups (λ c. gain plan.measure c.fact) i)
      (same_sum_by groups (λ c. loss plan.measure c.fact) i))
      ∙ sym (sum_over_is plan.measure (in_group plan groups (combinations plan dimensions other)))

  -- a rearrangement of the lines has the same answer
  pub answer-permutation : OrdersAllGroups plan → answer plan dimensions facts ≡ answer plan dimensions other
  answer-permutation orders = rows_from_sums plan (combinations plan dimensions facts)
      (combinations plan dimensions other) orders same_sums

-- so has each question
pub questions_ignore_order : QuestionsIgnoreOrder
questions_ignore_order question dimensions facts other moved =
    answer-permutation (plan_over question.0 question.1) dimensions facts other moved
    (orders_all_groups question.0 question.1)

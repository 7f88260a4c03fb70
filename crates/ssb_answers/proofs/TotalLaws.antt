-- The sums by group as a line is added.
use Rattle.std.proofs.Common.{ℕ, ◌≡◌, ◌+◌, ◌-◌, ◌^◌, List, [], ◌∷◌, true, false, cond, Option, None, Some, sym, refl}
use Rattle.std.proofs.Common.{ap, ◌∙◌, subst, arith}
use Rattle.std.specs.Prelude.{ℤ, pos, ◌+ℤ◌, ◌≤ℤ◌, unwrap_or, FitsSigned}
use Rattle.std.specs.Int.{w64}
use Rattle.std.specs.BTreeMap.{get}
use Rattle.std.specs.Ordering.{is_eq}
use Rattle.std.proofs.lemmas.Int.{ints}
use Rattle.ssb_questions.specs.declared.value.Value.{Value}
use Rattle.ssb_questions.specs.declared.plan.Plan.{Plan}
use Rattle.ssb_answers.specs.Combination.{Combination}
use Rattle.ssb_answers.specs.Answer.{amount, sum_over, in_group, group_of, groups_cmp}
use Rattle.ssb_answers.specs.Totals.{SumsByGroup, SumsFit, HasRoom, Adds, AddsAll, AddsOneLine, IsAmount, IsWithin}
use Rattle.ssb_answers.specs.Totals.{most}
use Rattle.ssb_answers.proofs.OrderLaws.{tied_by_test, groups_cmp-same}
use Rattle.ssb_answers.proofs.SumLaws.{group_sum_push}

-- what so many lines can make, one line more can
within_one_more : (lines : ℕ) (sum : ℤ) → IsWithin lines sum → IsWithin (lines + 1) sum
within_one_more lines sum h = (omega (arith, ints, h), omega (arith, ints, h))

within_added : (lines : ℕ) (sum more : ℤ) → IsWithin lines sum → IsAmount more → IsWithin (lines + 1) (sum +ℤ more)
within_added lines sum more h a = (omega (arith, ints, h, a), omega (arith, ints, h, a))

within_first : (lines : ℕ) (more : ℤ) → IsAmount more → IsWithin (lines + 1) (pos 0 +ℤ more)
within_first lines more a = (omega (arith, ints, a), omega (arith, ints, a))

pub keeps_one_line : (totals : SumsByGroup) → AddsOneLine totals totals
keeps_one_line totals lines within groups sum e = within_one_more lines sum (within groups sum e)

fits_first : (more : ℤ) → IsAmount more → FitsSigned w64 (pos 0 +ℤ more)
fits_first more a = omega (arith, ints, a)

fits_added : (sum more : ℤ) → (pos 0 ≤ℤ (sum +ℤ pos (2 ^ 63 - most))) × (sum ≤ℤ pos (2 ^ 63 - 1 - most)) → IsAmount more
    → FitsSigned w64 (sum +ℤ more)
fits_added sum more h a = omega (arith, ints, h, a)

pub room : (totals : SumsByGroup) (groups : List Value) (more : ℤ) → SumsFit totals → IsAmount more
    → HasRoom totals groups more
room totals groups more fit a = grind (arith, fits_first, fits_added)

pub adds_one_line : (old new : SumsByGroup) (groups : List Value) (more : ℤ) → IsAmount more → Adds old new groups more
    → AddsOneLine old new
adds_one_line old new groups more a adds lines within other sum e =
    let split : cond (is_eq (groups_cmp groups other)) (Some (unwrap_or (get groups_cmp old groups) (pos 0) +ℤ more))
    (get groups_cmp old other) ≡ Some sum = sym (adds other) ∙ e in
    elim (is_eq (groups_cmp groups other)) as
    (λ b. cond b (Some (unwrap_or (get groups_cmp old groups) (pos 0) +ℤ more)) (get groups_cmp old other)
    ≡ Some sum → IsWithin (lines + 1) sum) [
      | true ↦ λ h. subst (IsWithin (lines + 1)) (same _ _ h)
          (elim (get groups_cmp old groups) as (λ o. get groups_cmp old groups ≡ o
          → IsWithin (lines + 1) (unwrap_or o (pos 0) +ℤ more)) [
            | None ↦ λ _. within_first lines more a
            | Some before ↦ λ was. within_added lines before more (within groups before was) a
          ] refl)
      | false ↦ λ h. within_one_more lines sum (within other sum h)
    ] split
  where
    same : (x y : ℤ) → Some x ≡ Some y → x ≡ y
    same x y e = cc

-- where a combination's amount is added at its group, the sums are those with it besides
pub adds_combination : (plan : Plan) (old new : SumsByGroup) (c : Combination)
    → Adds old new (group_of plan c) (amount plan.measure c.fact) → AddsAll plan (c ∷ []) old new
adds_combination plan old new c adds found totals other =
    adds other
    ∙ elim (is_eq (groups_cmp (group_of plan c) other)) as (λ b. is_eq (groups_cmp (group_of plan c) other) ≡ b
    → cond b (Some (unwrap_or (get groups_cmp old (group_of plan c)) (pos 0) +ℤ amount plan.measure c.fact))
    (get groups_cmp old other)
    ≡ cond b (Some
    (unwrap_or (sum_over plan.measure (in_group plan other found)) (pos 0) +ℤ amount plan.measure c.fact))
    (sum_over plan.measure (in_group plan other found))) [
      | true ↦ λ t. ap (λ (o : Option ℤ). Some (unwrap_or o (pos 0) +ℤ amount plan.measure c.fact))
          (totals (group_of plan c)
          ∙ ap (λ (g : List Value). sum_over plan.measure (in_group plan g found))
          (groups_cmp-same _ _ (tied_by_test _ t)))
      | false ↦ λ _. totals other
    ] refl
    ∙ sym (group_sum_push plan found c other)

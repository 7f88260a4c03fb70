-- The sums so far, kept by group.
use Rattle.std.specs.Prelude.{ℕ, ℤ, pos, ◌≡◌, ◌*◌, ◌+◌, ◌-◌, ◌^◌, ◌++◌, ◌≤ℤ◌, ◌+ℤ◌, List, Some, unwrap_or}
use Rattle.std.specs.Prelude.{if◌then◌else◌, FitsSigned}
use Rattle.std.specs.Int.{w64}
use Rattle.std.specs.Ordering.{is_eq}
use Rattle.std.specs.BTreeMap.{BTreeMap, get}
use Rattle.ssb_questions.specs.declared.value.Value.{Value}
use Rattle.ssb_answers.specs.declared.answer.ResultRow.{ResultRow}
use Rattle.ssb_questions.specs.declared.plan.Plan.{Plan}
use Rattle.ssb_answers.specs.Combination.{Combination}
use Rattle.ssb_answers.specs.Answer.{groups_cmp, in_group, sum_over}

-- sums by groups
abbrev pub SumsByGroup : Type 0
SumsByGroup = BTreeMap (List Value) ℤ

-- at each group the sum over its combinations, and nothing where it has none
abbrev pub AreTotals : Plan → List Combination → SumsByGroup → Type 0
AreTotals plan found totals = (groups : List Value)
    → get groups_cmp totals groups ≡ sum_over plan.measure (in_group plan groups found)

-- the most that a line adds, and the least but for the sign: a price of 2 ^ 32 - 1 times a discount of 10
abbrev pub most : ℕ
most = 42949672950

abbrev pub IsWithin : ℕ → ℤ → Type 0
IsWithin lines sum = (pos 0 ≤ℤ (sum +ℤ pos (lines * most))) × (sum ≤ℤ pos (lines * most))

-- each sum is one that so many lines can make
abbrev pub SumsWithin : ℕ → SumsByGroup → Type 0
SumsWithin lines totals = (groups : List Value) (sum : ℤ) → get groups_cmp totals groups ≡ Some sum → IsWithin lines sum

-- the row of a group and its sum
abbrev pub row_from : List Value × ℤ → ResultRow
row_from (groups, sum) = record { groups = groups; sum = Some sum }

-- the sum of the group is greater by the amount, and every other sum is as it was
abbrev pub Adds : SumsByGroup → SumsByGroup → List Value → ℤ → Type 0
Adds old new groups amount =
    (other : List Value)
    → get groups_cmp new other
    ≡ (if is_eq (groups_cmp groups other) then Some
    (unwrap_or (get groups_cmp old groups) (pos 0) +ℤ amount) else get groups_cmp old other)

-- the sum of the group can take the amount
abbrev pub HasRoom : SumsByGroup → List Value → ℤ → Type 0
HasRoom totals groups amount = FitsSigned w64 (unwrap_or (get groups_cmp totals groups) (pos 0) +ℤ amount)

-- each sum can take the most that one line adds or takes away
abbrev pub SumsFit : SumsByGroup → Type 0
SumsFit totals = (groups : List Value) (sum : ℤ) → get groups_cmp totals groups ≡ Some sum
    → (pos 0 ≤ℤ (sum +ℤ pos (2 ^ 63 - most))) × (sum ≤ℤ pos (2 ^ 63 - 1 - most))

-- where the old sums were those of some combinations, the new ones are those with these besides
abbrev pub AddsAll : Plan → List Combination → SumsByGroup → SumsByGroup → Type 0
AddsAll plan more old new = (found : List Combination) → AreTotals plan found old → AreTotals plan (found ++ more) new

-- the sums are those of one line more
abbrev pub AddsOneLine : SumsByGroup → SumsByGroup → Type 0
AddsOneLine old new = (lines : ℕ) → SumsWithin lines old → SumsWithin (lines + 1) new

-- what one line adds, or takes away
abbrev pub IsAmount : ℤ → Type 0
IsAmount amount = (pos 0 ≤ℤ (amount +ℤ pos most)) × (amount ≤ℤ pos most)

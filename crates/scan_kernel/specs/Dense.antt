-- Sums and counts by group number.
use Rattle.std.specs.Prelude.{ℕ, ℤ, pos, ◌≡◌, ◌<◌, ◌+ℤ◌, nat_eq, nat_lt, List, [], ◌∷◌, length, map, filter, Some, None}
use Rattle.std.specs.Prelude.{IsPermutation, if◌then◌else◌}
use Rattle.std.specs.List.{fold, range_with_len}
use Rattle.std.specs.List.Sorted.{IsSorted}
use Rattle.ssb_questions.specs.Members.{Has}
use Rattle.ssb_questions.specs.Plan.{OrdersAllGroups, IsGrouped}
use Rattle.ssb_questions.specs.declared.plan.Measure.{Measure}
use Rattle.ssb_questions.specs.declared.plan.Plan.{Plan}
use Rattle.ssb_questions.specs.declared.value.Value.{Value}
use Rattle.ssb_answers.specs.Combination.{Combination}
use Rattle.ssb_answers.specs.Answer.{amount, group_of, row_cmp, rows_over}
use Rattle.ssb_answers.specs.declared.answer.ResultRow.{ResultRow}

-- the combinations that have the number
abbrev pub numbered : (Combination → ℕ) → ℕ → List Combination → List Combination
numbered number g found = filter (λ combination. nat_eq (number combination) g) found

abbrev pub total : Measure → List Combination → ℤ
total measure found = fold (λ sum combination. sum +ℤ amount measure combination.fact) (pos 0) found

-- the values of the group of each number, how many combinations it has, and their sum
pub record AreDenseTotals (plan : Plan) (found : List Combination) (number : Combination → ℕ) (size : ℕ)
    (groups : ℕ → List Value) (count : ℕ → ℕ) (sum : ℕ → ℤ) : Type 0 where
  pub below : (c : Combination) → Has found c → number c < size
  pub named : (c : Combination) → Has found c → groups (number c) ≡ group_of plan c
  pub apart : (g h : ℕ) → g < size → h < size → groups g ≡ groups h → g ≡ h
  pub counts : (g : ℕ) → g < size → count g ≡ length (numbered number g found)
  pub sums : (g : ℕ) → g < size → sum g ≡ total plan.measure (numbered number g found)

-- the numbers that have combinations
abbrev pub live : ℕ → (ℕ → ℕ) → List ℕ
live size count = filter (λ g. nat_lt 0 (count g)) (range_with_len 0 size)

abbrev pub dense_row : (ℕ → List Value) → (ℕ → ℤ) → ℕ → ResultRow
dense_row groups sum g = record { groups = groups g; sum = Some (sum g) }

abbrev pub dense_rows : ℕ → (ℕ → List Value) → (ℕ → ℕ) → (ℕ → ℤ) → List ResultRow
dense_rows size groups count sum = map (dense_row groups sum) (live size count)

-- the rows of the numbers that have combinations, sorted, are the rows over what was found
abbrev pub SortedRowsAnswer : Type 0
SortedRowsAnswer =
    (plan : Plan) (found : List Combination) (number : Combination → ℕ) (size : ℕ) (groups : ℕ → List Value)
    (count : ℕ → ℕ) (sum : ℕ → ℤ) (rows : List ResultRow)
    → OrdersAllGroups plan → IsGrouped plan → AreDenseTotals plan found number size groups count sum
    → IsPermutation (dense_rows size groups count sum) rows → IsSorted (row_cmp plan.order) rows
    → rows ≡ rows_over plan found

-- without group columns there is one row
abbrev pub OneRowAnswers : Type 0
OneRowAnswers =
    (plan : Plan) (found : List Combination) (count : ℕ) (sum : ℤ) → plan.groups ≡ [] → count ≡ length found
    → sum ≡ total plan.measure found
    → record { groups = []; sum = if nat_lt 0 count then Some sum else None } ∷ [] ≡ rows_over plan found

-- the rows are those over any combinations of which these are the counts and sums
abbrev pub AnswersAll : Plan → ℕ → (ℕ → List Value) → (ℕ → ℕ) → (ℕ → ℤ) → List ResultRow → Type 0
AnswersAll plan size groups count sum rows =
    (found : List Combination) (number : Combination → ℕ) → AreDenseTotals plan found number size groups count sum
    → rows ≡ rows_over plan found

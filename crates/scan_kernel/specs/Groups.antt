-- Groups by number: each column's values have dense codes, and the codes of a group make its number.
use Rattle.std.specs.Prelude.{ℕ, ◌≡◌, ◌+◌, ◌*◌, ◌/◌, ◌%◌, ◌<◌, List, [], ◌∷◌, length, map, slice_index_or, slice_get}
use Rattle.std.specs.Prelude.{Some, unwrap_or}
use Rattle.std.specs.List.{AllByRecursion, position}
use Rattle.std.specs.Ordering.{eq_by_cmp}
use Rattle.ssb_questions.specs.Value.{value_cmp}
use Rattle.ssb_schema.specs.declared.column.Column.{Column}
use Rattle.ssb_questions.specs.declared.plan.Plan.{Plan}
use Rattle.ssb_answers.specs.Combination.{Combination, value_at}
use Rattle.ssb_answers.specs.Answer.{group_of}
use Rattle.ssb_questions.specs.declared.value.Value.{Value}
use Rattle.ssb_questions.specs.declared.value.Value.TheVariants.{Number}

-- how many groups there are, where the columns have so many codes
abbrev pub size_of : List ℕ → ℕ
size_of [] = 1
size_of (count ∷ counts) = count * size_of counts

-- the number of a group: the first column's codes stand side by side
abbrev pub number_of : List ℕ → List ℕ → ℕ
number_of [] codes = 0
number_of (count ∷ counts) [] = 0
number_of (count ∷ counts) (code ∷ codes) = code + count * number_of counts codes

-- the same number, as the sum of a part for each column; a part is the code times the product of the counts before it
abbrev pub sum_of_parts : ℕ → List ℕ → List ℕ → ℕ
sum_of_parts step [] codes = 0
sum_of_parts step (count ∷ counts) [] = 0
sum_of_parts step (count ∷ counts) (code ∷ codes) = code * step + sum_of_parts (step * count) counts codes

-- the codes of a group
abbrev pub codes_of : List ℕ → ℕ → List ℕ
codes_of [] number = []
codes_of (count ∷ counts) number = number % count ∷ codes_of counts (number / count)

-- a code for each column, below the column's count
abbrev pub AreCodes : List ℕ → List ℕ → Type 0
AreCodes [] [] = Unit {0}
AreCodes [] (code ∷ codes) = ⊥
AreCodes (count ∷ counts) [] = ⊥
AreCodes (count ∷ counts) (code ∷ codes) = (code < count) × AreCodes counts codes

-- codes and numbers stand for each other
pub record NumbersAreCodes (counts : List ℕ) : Type 0 where
  pub below : (codes : List ℕ) → AreCodes counts codes → number_of counts codes < size_of counts
  pub back : (codes : List ℕ) → AreCodes counts codes → codes_of counts (number_of counts codes) ≡ codes
  pub are_codes : (number : ℕ) → number < size_of counts → AreCodes counts (codes_of counts number)
  pub forth : (number : ℕ) → number < size_of counts → number_of counts (codes_of counts number) ≡ number
  pub parts : (codes : List ℕ) → sum_of_parts 1 counts codes ≡ number_of counts codes

abbrev pub CodesAreNumbered : Type 0
CodesAreNumbered = (counts : List ℕ) → NumbersAreCodes counts

-- the values that have these codes, where each column lists its values by code
abbrev pub values_of : List (List Value) → List ℕ → List Value
values_of [] codes = []
values_of (values ∷ columns) [] = []
values_of (values ∷ columns) (code ∷ codes) = slice_index_or values code (Number 0) ∷ values_of columns codes

abbrev pub counts_of : List (List Value) → List ℕ
counts_of columns = map length columns

-- the values of the group of a number
abbrev pub group_values : List (List Value) → ℕ → List Value
group_values columns number = values_of columns (codes_of (counts_of columns) number)

-- a value has one code
abbrev pub AreApart : List Value → Type 0
AreApart values =
    (i j : ℕ) → i < length values → j < length values
    → slice_index_or values i (Number 0) ≡ slice_index_or values j (Number 0) → i ≡ j

-- groups of different numbers are different
abbrev pub GroupsAreApart : Type 0
GroupsAreApart =
    (columns : List (List Value)) → AllByRecursion AreApart columns → (g h : ℕ) → g < size_of (counts_of columns)
    → h < size_of (counts_of columns) → group_values columns g ≡ group_values columns h → g ≡ h

-- the code of a value: its place in the column's list
abbrev pub code_in : List Value → Value → ℕ
code_in values value = unwrap_or (position (eq_by_cmp value_cmp value) values) 0

-- each group column lists the combination's value, at its code
abbrev pub ListValues : List Column → List (List Value) → Combination → Type 0
ListValues [] [] c = Unit {0}
ListValues [] (values ∷ columns) c = ⊥
ListValues (column ∷ groups) [] c = ⊥
ListValues (column ∷ groups) (values ∷ columns) c =
    (slice_get values (code_in values (value_at column c)) ≡ Some (value_at column c)) × ListValues groups columns c

-- the combination's code in each group column
abbrev pub group_codes : List Column → List (List Value) → Combination → List ℕ
group_codes [] columns c = []
group_codes (column ∷ groups) [] c = []
group_codes (column ∷ groups) (values ∷ columns) c = code_in values (value_at column c) ∷ group_codes groups columns c

-- the number of the combination's group
abbrev pub group_number : List Column → List (List Value) → Combination → ℕ
group_number groups columns c = number_of (counts_of columns) (group_codes groups columns c)

-- it is one of the groups' numbers, and that group has the combination's values
abbrev pub CodesNumberGroups : Type 0
CodesNumberGroups =
    (plan : Plan) (columns : List (List Value)) (c : Combination) → ListValues plan.groups columns c
    → (group_number plan.groups columns c < size_of (counts_of columns))
    × (group_values columns (group_number plan.groups columns c) ≡ group_of plan c)

-- Counts and sums of some groups alone, each beside its group's number.
use Rattle.std.specs.Prelude.{ℕ, ℤ, pos, nat_eq, nat_lt, List, [], ◌∷◌, map, filter, if◌then◌else◌}
use Rattle.ssb_questions.specs.declared.value.Value.{Value}
use Rattle.ssb_answers.specs.declared.answer.ResultRow.{ResultRow}
use Rattle.scan_kernel.specs.Dense.{dense_row}

-- what stands beside the number; something else where the number is not among these
abbrev pub beside : {X : Type 0} → X → List ℕ → List X → ℕ → X
beside none [] items g = none
beside none (number ∷ numbers) [] g = none
beside none (number ∷ numbers) (item ∷ items) g = if nat_eq g number then item else beside none numbers items g

-- no other group than these has lines
abbrev pub count_of : List ℕ → List ℕ → ℕ → ℕ
count_of numbers counts g = beside 0 numbers counts g

abbrev pub sum_of : List ℕ → List ℤ → ℕ → ℤ
sum_of numbers sums g = beside (pos 0) numbers sums g

-- the rows of those of the numbers that have combinations
abbrev pub sparse_rows : List ℕ → (ℕ → List Value) → (ℕ → ℕ) → (ℕ → ℤ) → List ResultRow
sparse_rows numbers groups count sum = map (dense_row groups sum) (filter (λ g. nat_lt 0 (count g)) numbers)

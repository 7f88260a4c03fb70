-- The tests that plans make of the columns of a dimension.
use Rattle.std.specs.Prelude.{ℕ, ◌≡◌, ◌||◌, Bool, true, not, nat_eq, All, List, Some, slice_get, slice_index_or}
use Rattle.std.specs.List.{list_all, list_any}
use Rattle.ssb_base.specs.Base.{Tables}
use Rattle.ssb_schema.specs.declared.table.Table.{Table}
use Rattle.ssb_schema.specs.declared.table.Table.TheVariants as table
use Rattle.ssb_questions.specs.Cond.{holds}
use Rattle.ssb_questions.specs.declared.cond.Test.{Test}
use Rattle.ssb_questions.specs.declared.plan.Plan.{Plan}
use Rattle.ssb_questions.specs.declared.value.Value.{Value}
use Rattle.ssb_questions.specs.declared.value.Value.TheVariants.{Number}
use Rattle.dimension_index.specs.Values.{values_at}

-- a plan's tests of a dimension's rows; no question tests rows of the fact table, and any tests will do
abbrev pub tests_of : Table → Plan → List Test
tests_of table.Customer plan = plan.customers
tests_of table.Supplier plan = plan.suppliers
tests_of table.Part plan = plan.parts
tests_of table.Date plan = plan.dates
tests_of table.Lineorder plan = plan.dates

-- whether a value passes all tests of the column at a place
abbrev pub passes_at : List Test → ℕ → Value → Bool
passes_at tests place value = list_all (λ test. not (nat_eq test.column.place place) || holds test.cond value) tests

-- what the row at a position has in the column at a place
abbrev pub value_of_row : Tables → Table → ℕ → ℕ → Value
value_of_row base t p place = slice_index_or (values_at base t place) p (Number 0)

-- whether a place is among these
abbrev pub is_place : List ℕ → ℕ → Bool
is_place places place = list_any (λ own. nat_eq own place) places

-- the places of all columns of the dimension that the plans test are among these
abbrev pub CoverTests : Table → List Plan → List ℕ → Type 0
CoverTests t plans places =
    (k : ℕ) (plan : Plan) → slice_get plans k ≡ Some plan
    → All (λ test. is_place places test.column.place ≡ true) (tests_of t plan)

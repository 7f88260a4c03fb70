-- How many groups a question may have: by the values that rows have which pass its tests.
use Rattle.std.specs.Prelude.{ℕ, ◌≡◌, ◌≤◌, Bool, nat_lt, List, [], map, filter, length, position, Some}
use Rattle.ssb_base.specs.Base.{Dimensions, Tables}
use Rattle.ssb_schema.specs.declared.column.Column.{Column}
use Rattle.ssb_schema.specs.declared.table.Table.{Table}
use Rattle.ssb_schema.specs.declared.table.Table.TheVariants as table
use Rattle.ssb_questions.specs.declared.cond.Test.{Test}
use Rattle.ssb_questions.specs.declared.plan.Plan.{Plan}
use Rattle.ssb_questions.specs.declared.query.Query.{Query}
use Rattle.ssb_questions.specs.declared.value.Value.{Value}
use Rattle.ssb_questions.specs.Queries.{plan_over}
use Rattle.ssb_answers.specs.RowValues.{customer_value, supplier_value, part_value, date_value, pass}
use Rattle.dimension_index.specs.Codes.{distinct}
use Rattle.scan_kernel.specs.Groups.{size_of}
use Rattle.shared_scan.specs.Parts.{most_dense}

-- what the rows that pass all tests have at a place of their columns
abbrev pub values_passing : {R : Type 0} → List Test → (ℕ → R → Value) → List R → ℕ → List Value
values_passing tests value rows place = map (value place) (filter (λ row. pass tests (λ own. value own row)) rows)

-- what the rows of a dimension that pass the plan's tests have at a place of their columns; no question groups by a
-- column of the fact table
abbrev pub passing_values : Dimensions → Plan → Table → ℕ → List Value
passing_values d plan table.Customer place = values_passing plan.customers customer_value d.customers place
passing_values d plan table.Supplier place = values_passing plan.suppliers supplier_value d.suppliers place
passing_values d plan table.Part place = values_passing plan.parts part_value d.parts place
passing_values d plan table.Date place = values_passing plan.dates date_value d.dates place
passing_values d plan table.Lineorder place = []

-- how many different values those rows have in a column
abbrev pub count_passing : Dimensions → Plan → Column → ℕ
count_passing d plan column = length (distinct (passing_values d plan column.table column.place))

-- how many groups a question may have: the product of these numbers over the columns that it groups by
abbrev pub most_groups_of : Dimensions → Plan → ℕ
most_groups_of d plan = size_of (map (count_passing d plan) plan.groups)

abbrev pub most_groups : Tables → Query × List Value → ℕ
most_groups base question = most_groups_of base.dimensions (plan_over question.0 question.1)

-- so many that no totals are kept of it
abbrev pub has_many_groups : Tables → Query × List Value → Bool
has_many_groups base question = nat_lt most_dense (most_groups base question)

abbrev pub HasFewGroups : Tables → Query × List Value → Type 0
HasFewGroups base question = most_groups base question ≤ most_dense

-- the question at this place, counted from 0, is the first of these that has many
abbrev pub IsFirstOfMany : Tables → List (Query × List Value) → ℕ → Type 0
IsFirstOfMany base questions place = position (has_many_groups base) questions ≡ Some place

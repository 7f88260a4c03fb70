-- How much a question is about, before any line is looked at.
use Rattle.std.specs.Prelude.{ℕ, List, [], ◌∷◌, codes, decimal, filter, length}
use Rattle.std.specs.List.{concat}
use Rattle.ssb_answers.specs.RowValues.{customer_value, supplier_value, part_value, date_value, pass}
use Rattle.ssb_base.specs.Base.{Dimensions}
use Rattle.ssb_explain.specs.Words.{record_line}
use Rattle.ssb_questions.specs.declared.cond.Test.{Test}
use Rattle.ssb_questions.specs.declared.plan.Plan.{Plan}
use Rattle.ssb_questions.specs.declared.value.Value.{Value}
use Rattle.shared_scan.specs.GroupCounts.{most_groups_of}

-- the rows of a dimension that its tests take
abbrev pub taken : {F : Type 0} → List Test → (ℕ → F → Value) → List F → List F
taken tests value_of rows = filter (λ row. pass tests (λ place. value_of place row)) rows

-- a dimension's name, how many of its rows the tests take, and how many it has
abbrev pub rows_line : {F : Type 0} → List ℕ → List Test → (ℕ → F → Value) → List F → List ℕ
rows_line name tests value_of rows =
    record_line (name ∷ decimal (length (taken tests value_of rows)) ∷ decimal (length rows) ∷ [])

-- a line for each dimension, and one for the greatest number of groups
abbrev pub sizes_text : Plan → Dimensions → List ℕ
sizes_text plan d = concat
    (rows_line (codes "customer") plan.customers customer_value d.customers
    ∷ rows_line (codes "supplier") plan.suppliers supplier_value d.suppliers
    ∷ rows_line (codes "part") plan.parts part_value d.parts
    ∷ rows_line (codes "date") plan.dates date_value d.dates
    ∷ record_line (codes "groups" ∷ decimal (most_groups_of d plan) ∷ []) ∷ [])

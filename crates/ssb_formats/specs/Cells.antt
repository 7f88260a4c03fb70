-- The printed cells of an answer.
use Rattle.std.specs.Prelude.{ℕ, Bool, true, false, List, [], ◌∷◌, ◌++◌, map, if◌then◌else◌}
use Rattle.ssb_schema.specs.Columns.{column_name}
use Rattle.ssb_schema.specs.declared.column.Column.{Column}
use Rattle.ssb_questions.specs.Clause.{measure_name, kind_in}
use Rattle.ssb_questions.specs.declared.kind.ConstantKind.{ConstantKind}
use Rattle.ssb_questions.specs.declared.kind.ConstantKind.TheVariants as kind
use Rattle.ssb_questions.specs.Query.{sum_first}
use Rattle.ssb_questions.specs.declared.plan.Plan.{Plan}
use Rattle.ssb_questions.specs.declared.query.Query.{Query}

-- the items of the group columns, with that of the sum where the report prints it
abbrev pub in_place : {X : Type 0} → Query → X → List X → List X
in_place query sum groups = if sum_first query then sum ∷ groups else groups ++ sum ∷ []

-- the heads of the printed columns: the names of the group columns, and the measure as `star` spells it
abbrev pub heads_of : Query → Plan → List (List ℕ)
heads_of query plan = in_place query (measure_name plan.measure) (map column_name plan.groups)

-- whether a column takes numbers; else it takes texts
abbrev pub is_number : ConstantKind → Bool
is_number kind.Number = true
is_number (kind.Text column) = false

abbrev pub takes_numbers : Column → Bool
takes_numbers column = is_number (kind_in column)

-- which of the printed columns have numbers, as the sum is
abbrev pub are_numbers : Query → Plan → List Bool
are_numbers query plan = in_place query true (map takes_numbers plan.groups)

-- The tests of a plan as conditions of SQL.
use Rattle.std.specs.Prelude.{ℕ, List, [], ◌∷◌, ◌++◌, codes, decimal, map, Option, None, Some}
use Rattle.std.specs.List.{concat}
use Rattle.ssb_schema.specs.declared.column.Column.{Column}
use Rattle.ssb_questions.specs.Clause.{kind_in}
use Rattle.ssb_questions.specs.declared.cond.Cond.{Cond}
use Rattle.ssb_questions.specs.declared.cond.Cond.TheVariants.{TextIs, TextFromTo, TextOneOf, NumberIs, NumberFromTo}
use Rattle.ssb_questions.specs.declared.cond.Cond.TheVariants.{NumberOneOf, TextNoneOf, NumberNoneOf}
use Rattle.ssb_questions.specs.declared.cond.Test.{Test}
use Rattle.ssb_questions.specs.declared.kind.ConstantKind.{ConstantKind}
use Rattle.ssb_questions.specs.declared.kind.ConstantKind.TheVariants as kind
use Rattle.ssb_questions.specs.declared.plan.NumberRange.{NumberRange}
use Rattle.ssb_questions.specs.declared.plan.Plan.{Plan}
use Rattle.ssb_explain.specs.Names.{column_sql}
use Rattle.ssb_explain.specs.Texts.{commas, joined, replaced}
use Rattle.ssb_explain.specs.declared.system.System.{System}
use Rattle.ssb_explain.specs.declared.system.System.TheVariants.{Sqlite, Postgresql, Clickhouse}

-- a text with its quotes doubled; ClickHouse has a backslash before each quote and each backslash
abbrev pub escaped : System → List ℕ → List ℕ
escaped Clickhouse text = replaced 39 (codes "\\'") (replaced 92 (codes "\\\\") text)
escaped Sqlite text = replaced 39 (codes "''") text
escaped Postgresql text = replaced 39 (codes "''") text

abbrev pub literal : System → List ℕ → List ℕ
literal system text = concat (codes "'" ∷ escaped system text ∷ codes "'" ∷ [])

-- a column where its order counts, which is that of bytes: PostgreSQL has to be told of texts
abbrev pub ordered_by : System → ConstantKind → List ℕ → List ℕ
ordered_by Postgresql (kind.Text own) name = concat (name ∷ codes " COLLATE \"C\"" ∷ [])
ordered_by Postgresql kind.Number name = name
ordered_by Sqlite takes name = name
ordered_by Clickhouse takes name = name

abbrev pub ordered_sql : System → Column → List ℕ
ordered_sql system column = ordered_by system (kind_in column) (column_sql column)

abbrev pub between : List ℕ → List ℕ → List ℕ → List ℕ
between name from to = concat (name ∷ codes " BETWEEN " ∷ from ∷ codes " AND " ∷ to ∷ [])

abbrev pub equals : List ℕ → List ℕ → List ℕ
equals name value = concat (name ∷ codes " = " ∷ value ∷ [])

abbrev pub differs : List ℕ → List ℕ → List ℕ
differs name value = concat (name ∷ codes " <> " ∷ value ∷ [])

abbrev pub one_of : List ℕ → List (List ℕ) → List ℕ
one_of name values = concat (name ∷ codes " IN (" ∷ commas values ∷ codes ")" ∷ [])

abbrev pub not_in : List ℕ → List (List ℕ) → List ℕ
not_in name values = concat (name ∷ codes " NOT IN (" ∷ commas values ∷ codes ")" ∷ [])

-- none of the values; one alone is told without a list
abbrev pub none_of : List ℕ → List (List ℕ) → List ℕ
none_of name [] = not_in name []
none_of name (value ∷ []) = differs name value
none_of name (value ∷ other ∷ values) = not_in name (value ∷ other ∷ values)

abbrev pub condition_of : System → Column → Cond → List ℕ
condition_of system column (TextIs text) = equals (column_sql column) (literal system text)
condition_of system column (TextFromTo from to) =
    between (ordered_sql system column) (literal system from) (literal system to)
condition_of system column (TextOneOf texts) = one_of (column_sql column) (map (literal system) texts)
condition_of system column (NumberIs number) = equals (column_sql column) (decimal number)
condition_of system column (NumberFromTo from to) = between (column_sql column) (decimal from) (decimal to)
condition_of system column (NumberOneOf numbers) = one_of (column_sql column) (map decimal numbers)
condition_of system column (TextNoneOf texts) = none_of (column_sql column) (map (literal system) texts)
condition_of system column (NumberNoneOf numbers) = none_of (column_sql column) (map decimal numbers)

abbrev pub condition : System → Test → List ℕ
condition system test = condition_of system test.column test.cond

-- the conditions of tests, one by one
abbrev pub conditions : System → List Test → List (List ℕ)
conditions system tests = map (condition system) tests

abbrev pub range_conditions : List ℕ → Option NumberRange → List (List ℕ)
range_conditions name None = []
range_conditions name (Some range) = between name (decimal range.from) (decimal range.to) ∷ []

-- the conditions of the lines themselves
abbrev pub line_conditions : Plan → List (List ℕ)
line_conditions plan =
    range_conditions (codes "lo_quantity") plan.quantity ++ range_conditions (codes "lo_discount") plan.discount

-- all of the conditions hold; there may be none
abbrev pub where_all : List ℕ → List ℕ → List (List ℕ) → List ℕ
where_all head and [] = []
where_all head and (first ∷ others) = concat (head ∷ joined and (first ∷ others) ∷ [])

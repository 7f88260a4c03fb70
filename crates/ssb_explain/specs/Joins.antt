-- What a statement reads, and which conditions hold of it.
use Rattle.std.specs.Prelude.{ℕ, Bool, not, ◌||◌, List, [], ◌∷◌, ◌++◌, codes, filter, flat_map, length, map, nat_eq}
use Rattle.std.specs.List.{concat, list_any}
use Rattle.ssb_schema.specs.declared.column.Column.{Column}
use Rattle.ssb_schema.specs.declared.table.Table.{Table}
use Rattle.ssb_schema.specs.declared.table.Table.TheVariants.{Customer, Supplier, Part, Date, Lineorder}
use Rattle.ssb_questions.specs.declared.cond.Test.{Test}
use Rattle.ssb_questions.specs.declared.plan.Measure.{Measure}
use Rattle.ssb_questions.specs.declared.plan.Measure.TheVariants.{Revenue, Profit, PriceTimesDiscount, Quantity}
use Rattle.ssb_questions.specs.declared.plan.Measure.TheVariants.{ExtendedPrice, SupplyCost, Lines}
use Rattle.ssb_questions.specs.declared.plan.Plan.{Plan}
use Rattle.ssb_explain.specs.Conditions.{conditions, line_conditions, where_all}
use Rattle.ssb_explain.specs.Lines.{commit_conditions, lines_table, sign_names}
use Rattle.ssb_explain.specs.Names.{column_sql, dimensions, key_sql, line_key_sql, same_table, table_sql}
use Rattle.ssb_explain.specs.Texts.{commas, joined}
use Rattle.ssb_explain.specs.declared.lines.ReadLines.{ReadLines}
use Rattle.ssb_explain.specs.declared.system.System.{System}
use Rattle.ssb_explain.specs.declared.system.System.TheVariants.{Sqlite, Postgresql, Clickhouse}

-- the tests of a dimension
abbrev pub tests_on : Plan → Table → List Test
tests_on plan Customer = plan.customers
tests_on plan Supplier = plan.suppliers
tests_on plan Part = plan.parts
tests_on plan Date = plan.dates
tests_on plan Lineorder = []

-- the group columns of a dimension
abbrev pub columns_on : Plan → Table → List Column
columns_on plan t = filter (λ column. same_table t column.table) plan.groups

abbrev pub names_on : Plan → Table → List (List ℕ)
names_on plan t = map column_sql (columns_on plan t)

abbrev pub is_tested : Plan → Table → Bool
is_tested plan t = not (nat_eq (length (tests_on plan t)) 0)

abbrev pub is_grouped : Plan → Table → Bool
is_grouped plan t = list_any (λ column. same_table t column.table) plan.groups

-- the rows of a dimension that pass its tests
abbrev pub passing : System → Plan → Table → List ℕ
passing system plan t = concat
    (table_sql t ∷ where_all (codes " WHERE ") (codes " AND ") (conditions system (tests_on plan t)) ∷ [])

-- SQLite and PostgreSQL: the lines beside the row that they name in each dimension that is tested or grouped by
abbrev pub is_needed : Plan → Table → Bool
is_needed plan t = is_tested plan t || is_grouped plan t

abbrev pub join_text : Table → List ℕ
join_text t = concat
    (codes "\nJOIN " ∷ table_sql t ∷ codes " ON " ∷ line_key_sql t ∷ codes " = " ∷ key_sql t ∷ [])

abbrev pub plain_conditions : System → ReadLines → Plan → List (List ℕ)
plain_conditions system lines plan =
    (flat_map (λ t. conditions system (tests_on plan t)) dimensions ++ line_conditions plan) ++ commit_conditions lines

abbrev pub plain_source : System → ReadLines → Plan → List ℕ
plain_source system lines plan = concat
    (lines_table lines
    ∷ joined [] (map join_text (filter (is_needed plan) dimensions))
    ∷ where_all (codes "\nWHERE ") (codes "\n  AND ") (plain_conditions system lines plan) ∷ [])

-- ClickHouse: one join in each SELECT, so that joins stand within one another, and each tested dimension also as a
-- condition of the lines, so that fewer of them are joined
abbrev pub keys_pass : System → Plan → Table → List ℕ
keys_pass system plan t = concat
    (line_key_sql t ∷ codes " IN (SELECT " ∷ key_sql t ∷ codes " FROM " ∷ passing system plan t ∷ codes ")" ∷ [])

abbrev pub key_conditions : System → ReadLines → Plan → List (List ℕ)
key_conditions system lines plan =
    (map (keys_pass system plan) (filter (is_tested plan) dimensions) ++ line_conditions plan) ++ commit_conditions lines

abbrev pub inner_join_text : System → Plan → Table → List ℕ
inner_join_text system plan t = concat
    (codes "\nANY INNER JOIN (SELECT " ∷ key_sql t ∷ codes " AS " ∷ line_key_sql t ∷ codes ", "
    ∷ commas (names_on plan t) ∷ codes " FROM " ∷ passing system plan t ∷ codes ") USING " ∷ line_key_sql t ∷ [])

-- what the measure is made of
abbrev pub measured : Measure → List (List ℕ)
measured Revenue = codes "lo_revenue" ∷ []
measured Profit = codes "lo_revenue" ∷ codes "lo_supplycost" ∷ []
measured PriceTimesDiscount = codes "lo_extendedprice" ∷ codes "lo_discount" ∷ []
measured Quantity = codes "lo_quantity" ∷ []
measured ExtendedPrice = codes "lo_extendedprice" ∷ []
measured SupplyCost = codes "lo_supplycost" ∷ []
measured Lines = []

-- what the outer joins and the sum still need
abbrev pub kept : ReadLines → Plan → List Table → List (List ℕ) → List (List ℕ)
kept lines plan outer columns = sign_names lines ++ measured plan.measure ++ map line_key_sql outer ++ columns

abbrev pub selected_from : List (List ℕ) → List ℕ → List ℕ → List ℕ → List ℕ
selected_from names source join tested = concat
    (codes "(SELECT " ∷ commas names ∷ codes "\nFROM " ∷ source ∷ join ∷ tested ∷ codes ")" ∷ [])

-- a source of rows, joined with the last dimension; and with one before others, which need what is kept
abbrev pub last_join : Plan → List ℕ → List ℕ → Table → List ℕ
last_join plan rows tested t = concat (rows ∷ inner_join_text Clickhouse plan t ∷ tested ∷ [])

abbrev pub next_rows : ReadLines → Plan → List ℕ → List ℕ → List (List ℕ) → Table → List Table → List ℕ
next_rows lines plan rows tested columns t outer =
    selected_from (kept lines plan outer (columns ++ names_on plan t)) rows (inner_join_text Clickhouse plan t) tested

-- a source of rows, joined with a dimension, and then with the outer ones; the conditions stand behind the first join,
-- and the group columns so far are kept
abbrev pub joined_from : ReadLines → Plan → List ℕ → List ℕ → List (List ℕ) → Table → List Table → List ℕ
joined_from lines plan rows tested columns t [] = last_join plan rows tested t
joined_from lines plan rows tested columns t (next ∷ outer) =
    joined_from lines plan (next_rows lines plan rows tested columns t (next ∷ outer)) [] (columns ++ names_on plan t)
    next outer

-- the lines, joined with these dimensions
abbrev pub joined_source : ReadLines → Plan → List ℕ → List Table → List ℕ
joined_source lines plan tested [] = concat (lines_table lines ∷ tested ∷ [])
joined_source lines plan tested (t ∷ outer) = joined_from lines plan (lines_table lines) tested [] t outer

abbrev pub nested_source : ReadLines → Plan → List ℕ
nested_source lines plan = joined_source lines plan
    (where_all (codes "\nWHERE ") (codes "\n  AND ") (key_conditions Clickhouse lines plan))
    (filter (is_grouped plan) dimensions)

abbrev pub source : System → ReadLines → Plan → List ℕ
source Sqlite lines plan = plain_source Sqlite lines plan
source Postgresql lines plan = plain_source Postgresql lines plan
source Clickhouse lines plan = nested_source lines plan

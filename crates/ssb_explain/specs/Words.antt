-- A question in words.
use Rattle.std.specs.Prelude.{ℕ, Bool, true, false, not, ◌==◌, ◌||◌, List, [], ◌∷◌, ◌++◌, codes, map, flat_map}
use Rattle.std.specs.Prelude.{Option, None, Some, slice_get, if◌then◌else◌}
use Rattle.std.specs.List.{concat, list_all, list_any}
use Rattle.ssb_schema.specs.Columns.{column_name}
use Rattle.ssb_schema.specs.declared.column.Column.{Column}
use Rattle.ssb_questions.specs.Clause.{Clause, Sums, GroupsBy, Is, IsNot, FromTo, QuantityIn, DiscountIn, BySum}
use Rattle.ssb_questions.specs.Clause.{measure_name}
use Rattle.ssb_questions.specs.Laws.{clause_text, value_text}
use Rattle.ssb_questions.specs.Queries.{plan_over}
use Rattle.ssb_questions.specs.Query.{name_of, sum_first}
use Rattle.ssb_questions.specs.declared.cond.Cond.{Cond}
use Rattle.ssb_questions.specs.declared.cond.Cond.TheVariants.{TextIs, TextFromTo, TextOneOf, NumberIs, NumberFromTo}
use Rattle.ssb_questions.specs.declared.cond.Cond.TheVariants.{NumberOneOf, TextNoneOf, NumberNoneOf}
use Rattle.ssb_questions.specs.declared.cond.Test.{Test}
use Rattle.ssb_questions.specs.declared.plan.NumberRange.{NumberRange}
use Rattle.ssb_questions.specs.declared.plan.OrderKey.{OrderKey}
use Rattle.ssb_questions.specs.declared.plan.OrderKey.TheVariants.{Group, SumDescending}
use Rattle.ssb_questions.specs.declared.plan.Plan.{Plan}
use Rattle.ssb_questions.specs.declared.query.Query.{Query}
use Rattle.ssb_questions.specs.declared.query.Query.TheVariants as query
use Rattle.ssb_questions.specs.declared.value.Value.{Value}
use Rattle.ssb_questions.specs.declared.value.Value.TheVariants.{Text, Number}
use Rattle.ssb_explain.specs.Texts.{joined}

-- the column has the value
abbrev pub text_clause : Column → List ℕ → Clause
text_clause column text = Is column (Text text)

abbrev pub number_clause : Column → ℕ → Clause
number_clause column number = Is column (Number number)

-- the column has not the value
abbrev pub text_exclusion : Column → List ℕ → Clause
text_exclusion column text = IsNot column (Text text)

abbrev pub number_exclusion : Column → ℕ → Clause
number_exclusion column number = IsNot column (Number number)

-- the clauses that ask what a test asks
abbrev pub test_clauses : Column → Cond → List Clause
test_clauses column (TextIs text) = text_clause column text ∷ []
test_clauses column (TextFromTo from to) = FromTo column (Text from) (Text to) ∷ []
test_clauses column (TextOneOf texts) = map (text_clause column) texts
test_clauses column (NumberIs number) = number_clause column number ∷ []
test_clauses column (NumberFromTo from to) = FromTo column (Number from) (Number to) ∷ []
test_clauses column (NumberOneOf numbers) = map (number_clause column) numbers
test_clauses column (TextNoneOf texts) = map (text_exclusion column) texts
test_clauses column (NumberNoneOf numbers) = map (number_exclusion column) numbers

abbrev pub tests_clauses : List Test → List Clause
tests_clauses tests = flat_map (λ test. test_clauses test.column test.cond) tests

abbrev pub range_clauses : (NumberRange → Clause) → Option NumberRange → List Clause
range_clauses says None = []
range_clauses says (Some range) = says range ∷ []

-- whether rows stand by the sum
abbrev pub is_by_sum : OrderKey → Bool
is_by_sum SumDescending = true
is_by_sum (Group place) = false

abbrev pub order_clauses : List OrderKey → List Clause
order_clauses order = if list_any is_by_sum order then BySum ∷ [] else []

-- the clauses of a plan: its measure, its group columns, its tests, and the order by the sum
abbrev pub plan_clauses : Plan → List Clause
plan_clauses plan =
    Sums plan.measure ∷ map GroupsBy plan.groups
    ++ tests_clauses plan.customers ++ tests_clauses plan.suppliers ++ tests_clauses plan.parts
    ++ tests_clauses plan.dates
    ++ range_clauses QuantityIn plan.quantity ++ range_clauses DiscountIn plan.discount ++ order_clauses plan.order

-- whether a constant can stand in a clause: points would part it
abbrev pub has_no_point : Value → Bool
has_no_point (Text text) = list_all (λ b. not (b == 46)) text
has_no_point (Number number) = true

abbrev pub is_star : Query → Bool
is_star query.Star = true
is_star _ = false

-- whether `star` is asked in words of its own, by the clauses of the plan
abbrev pub is_spelled_anew : Query → List Value → Bool
is_spelled_anew asked constants = if is_star asked then false else list_all has_no_point constants

-- the fields of the request that asks it of `star`, as far as its clauses say it; else of the question itself
abbrev pub request_fields : Query → List Value → List (List ℕ)
request_fields asked constants =
    if is_spelled_anew asked constants
    then name_of query.Star ∷ map clause_text (plan_clauses (plan_over asked constants))
    else name_of asked ∷ map value_text constants

-- the printed columns; a sum is named by the measure
abbrev pub column_fields : Query → Plan → List (List ℕ)
column_fields asked plan =
    if sum_first asked
    then measure_name plan.measure ∷ map column_name plan.groups
    else map column_name plan.groups ++ measure_name plan.measure ∷ []

-- the name of a group column, by its place from 0
abbrev pub name_at : Option Column → List ℕ
name_at None = []
name_at (Some column) = column_name column

abbrev pub key_text : Plan → OrderKey → List ℕ
key_text plan SumDescending = concat (measure_name plan.measure ∷ codes " DESC" ∷ [])
key_text plan (Group place) = name_at (slice_get plan.groups place)

-- a line of fields, with a bar between each two
abbrev pub record_line : List (List ℕ) → List ℕ
record_line fields = concat (joined (codes "|") fields ∷ codes "\n" ∷ [])

-- what is asked, as a request of a script; what each printed column is; and what the rows are ordered by
abbrev pub explanation_text : Query → List Value → Plan → List ℕ
explanation_text asked constants plan =
    record_line (codes "query" ∷ request_fields asked constants)
    ++ (record_line (codes "columns" ∷ column_fields asked plan)
    ++ record_line (codes "order" ∷ map (key_text plan) plan.order))

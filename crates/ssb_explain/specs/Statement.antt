-- A question as one statement of SQL.
use Rattle.std.specs.Prelude.{ℕ, List, [], ◌∷◌, ◌++◌, codes, map, Option, None, Some, slice_get, if◌then◌else◌}
use Rattle.std.specs.List.{concat}
use Rattle.ssb_schema.specs.declared.column.Column.{Column}
use Rattle.ssb_questions.specs.Query.{sum_first}
use Rattle.ssb_questions.specs.declared.plan.Measure.{Measure}
use Rattle.ssb_questions.specs.declared.plan.Measure.TheVariants.{Revenue, Profit, PriceTimesDiscount, Quantity}
use Rattle.ssb_questions.specs.declared.plan.Measure.TheVariants.{ExtendedPrice, SupplyCost, Lines}
use Rattle.ssb_questions.specs.declared.plan.OrderKey.{OrderKey}
use Rattle.ssb_questions.specs.declared.plan.OrderKey.TheVariants.{Group, SumDescending}
use Rattle.ssb_questions.specs.declared.plan.Plan.{Plan}
use Rattle.ssb_questions.specs.declared.query.Query.{Query}
use Rattle.ssb_explain.specs.Conditions.{ordered_sql}
use Rattle.ssb_explain.specs.Joins.{source}
use Rattle.ssb_explain.specs.Lines.{having}
use Rattle.ssb_explain.specs.Names.{column_sql}
use Rattle.ssb_explain.specs.Texts.{commas}
use Rattle.ssb_explain.specs.declared.lines.ReadLines.{ReadLines}
use Rattle.ssb_explain.specs.declared.lines.ReadLines.TheVariants.{Lineorder, AsOf}
use Rattle.ssb_explain.specs.declared.system.System.{System}
use Rattle.ssb_explain.specs.declared.system.System.TheVariants.{Sqlite, Postgresql, Clickhouse}

-- the sum over lines; ClickHouse's numbers have no sign, unless they are told
abbrev pub sum_sql : System → Measure → List ℕ
sum_sql system Revenue = codes "sum(lo_revenue)"
sum_sql Sqlite Profit = codes "sum(lo_revenue - lo_supplycost)"
sum_sql Postgresql Profit = codes "sum(lo_revenue - lo_supplycost)"
sum_sql Clickhouse Profit = codes "sum(toInt64(lo_revenue) - toInt64(lo_supplycost))"
sum_sql system PriceTimesDiscount = codes "sum(lo_extendedprice * lo_discount)"
sum_sql system Quantity = codes "sum(lo_quantity)"
sum_sql system ExtendedPrice = codes "sum(lo_extendedprice)"
sum_sql system SupplyCost = codes "sum(lo_supplycost)"
sum_sql Sqlite Lines = codes "count(*)"
sum_sql Postgresql Lines = codes "count(*)"
sum_sql Clickhouse Lines = codes "count()"

-- the sum over all lines, which is NULL over none
abbrev pub whole_sum_sql : System → Measure → List ℕ
whole_sum_sql Sqlite Lines = codes "nullif(count(*), 0)"
whole_sum_sql Postgresql Lines = codes "nullif(count(*), 0)"
whole_sum_sql Sqlite measure = sum_sql Sqlite measure
whole_sum_sql Postgresql measure = sum_sql Postgresql measure
whole_sum_sql Clickhouse measure = concat (codes "if(count() = 0, NULL, " ∷ sum_sql Clickhouse measure ∷ codes ")" ∷ [])

-- the same over signed lines: a line that went is taken off again
abbrev pub signed_sum_sql : System → Measure → List ℕ
signed_sum_sql system Revenue = codes "sum(sign * lo_revenue)"
signed_sum_sql Sqlite Profit = codes "sum(sign * (lo_revenue - lo_supplycost))"
signed_sum_sql Postgresql Profit = codes "sum(sign * (lo_revenue - lo_supplycost))"
signed_sum_sql Clickhouse Profit = codes "sum(sign * (toInt64(lo_revenue) - toInt64(lo_supplycost)))"
signed_sum_sql system PriceTimesDiscount = codes "sum(sign * lo_extendedprice * lo_discount)"
signed_sum_sql system Quantity = codes "sum(sign * lo_quantity)"
signed_sum_sql system ExtendedPrice = codes "sum(sign * lo_extendedprice)"
signed_sum_sql system SupplyCost = codes "sum(sign * lo_supplycost)"
signed_sum_sql system Lines = codes "sum(sign)"

abbrev pub whole_signed_sum_sql : System → Measure → List ℕ
whole_signed_sum_sql Sqlite Lines = codes "nullif(sum(sign), 0)"
whole_signed_sum_sql Postgresql Lines = codes "nullif(sum(sign), 0)"
whole_signed_sum_sql Sqlite measure = concat
    (codes "CASE WHEN sum(sign) > 0 THEN " ∷ signed_sum_sql Sqlite measure ∷ codes " END" ∷ [])
whole_signed_sum_sql Postgresql measure = concat
    (codes "CASE WHEN sum(sign) > 0 THEN " ∷ signed_sum_sql Postgresql measure ∷ codes " END" ∷ [])
whole_signed_sum_sql Clickhouse measure = concat
    (codes "if(sum(sign) = 0, NULL, " ∷ signed_sum_sql Clickhouse measure ∷ codes ")" ∷ [])

-- the sum over a group of lines, and over all
abbrev pub group_sum : System → ReadLines → Measure → List ℕ
group_sum system Lineorder measure = sum_sql system measure
group_sum system (AsOf commits) measure = signed_sum_sql system measure

abbrev pub whole_sum : System → ReadLines → Measure → List ℕ
whole_sum system Lineorder measure = whole_sum_sql system measure
whole_sum system (AsOf commits) measure = whole_signed_sum_sql system measure

abbrev pub total_over : System → ReadLines → Measure → List Column → List ℕ
total_over system lines measure [] = whole_sum system lines measure
total_over system lines measure (column ∷ columns) = group_sum system lines measure

abbrev pub total : System → ReadLines → Plan → List ℕ
total system lines plan = concat (total_over system lines plan.measure plan.groups ∷ codes " AS total" ∷ [])

-- the printed columns
abbrev pub selected : System → ReadLines → Query → Plan → List (List ℕ)
selected system lines asked plan =
    if sum_first asked then total system lines plan ∷ map column_sql plan.groups
    else map column_sql plan.groups ++ total system lines plan ∷ []

abbrev pub column_at : System → Option Column → List ℕ
column_at system None = []
column_at system (Some column) = ordered_sql system column

abbrev pub key_of : System → Plan → OrderKey → List ℕ
key_of system plan SumDescending = codes "total DESC"
key_of system plan (Group place) = column_at system (slice_get plan.groups place)

-- one row for each group that has lines, in the order of the plan
abbrev pub in_groups : System → ReadLines → Plan → List Column → List ℕ
in_groups system lines plan columns = concat
    (codes "\nGROUP BY " ∷ commas (map column_sql columns) ∷ having lines
    ∷ codes "\nORDER BY " ∷ commas (map (key_of system plan) plan.order) ∷ [])

-- without groups there is one row
abbrev pub grouped_by : System → ReadLines → Plan → List Column → List ℕ
grouped_by system lines plan [] = []
grouped_by system lines plan (column ∷ columns) = in_groups system lines plan (column ∷ columns)

abbrev pub statement_text : System → ReadLines → Query → Plan → List ℕ
statement_text system lines asked plan = concat
    (codes "SELECT " ∷ commas (selected system lines asked plan) ∷ codes "\nFROM " ∷ source system lines plan
    ∷ grouped_by system lines plan plan.groups ∷ codes ";\n" ∷ [])

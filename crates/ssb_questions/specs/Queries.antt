-- The thirteen queries as data: their constants, and their plans over constants; and `star`.
use Rattle.std.specs.Prelude.{ℕ, ◌+◌, List, [], ◌∷◌, Option, None, Some, codes, slice_get}
use Rattle.ssb_schema.specs.declared.column.Column.{Column}
use Rattle.ssb_schema.specs.Columns.{C_CITY, C_NATION, C_REGION, S_CITY, S_NATION, S_REGION}
use Rattle.ssb_schema.specs.Columns.{P_MFGR, P_CATEGORY, P_BRAND1, D_YEAR, D_YEARMONTHNUM, D_YEARMONTH, D_WEEKNUMINYEAR}
use Rattle.ssb_questions.specs.Star.{star_plan_over}
use Rattle.ssb_questions.specs.declared.value.Value.{Value}
use Rattle.ssb_questions.specs.declared.value.Value.TheVariants.{Text, Number}
use Rattle.ssb_questions.specs.declared.cond.Cond.TheVariants.{TextIs, TextFromTo, TextOneOf, NumberIs, NumberFromTo}
use Rattle.ssb_questions.specs.declared.cond.Cond.TheVariants.{NumberOneOf}
use Rattle.ssb_questions.specs.declared.cond.Test.{Test}
use Rattle.ssb_questions.specs.declared.plan.Measure.{Measure}
use Rattle.ssb_questions.specs.declared.plan.Measure.TheVariants.{PriceTimesDiscount, Revenue, Profit}
use Rattle.ssb_questions.specs.declared.plan.NumberRange.{NumberRange}
use Rattle.ssb_questions.specs.declared.plan.OrderKey.{OrderKey}
use Rattle.ssb_questions.specs.declared.plan.OrderKey.TheVariants.{Group, SumDescending}
use Rattle.ssb_questions.specs.declared.plan.Plan.{Plan}
use Rattle.ssb_questions.specs.declared.query.Query.{Query}
use Rattle.ssb_questions.specs.declared.query.Query.TheVariants.{Q1_1, Q1_2, Q1_3, Q2_1, Q2_2, Q2_3, Q3_1, Q3_2, Q3_3}
use Rattle.ssb_questions.specs.declared.query.Query.TheVariants.{Q3_4}
use Rattle.ssb_questions.specs.declared.query.Query.TheVariants.{Q4_1, Q4_2, Q4_3, Star}

-- the constants of each query where a question gives none, in the order in which it gives its own; `star` has none
abbrev pub standard_constants : Query → List Value
standard_constants Q1_1 = Number 1993 ∷ Number 1 ∷ Number 3 ∷ Number 0 ∷ Number 24 ∷ []
standard_constants Q1_2 = Number 199401 ∷ Number 4 ∷ Number 6 ∷ Number 26 ∷ Number 35 ∷ []
standard_constants Q1_3 = Number 6 ∷ Number 1994 ∷ Number 5 ∷ Number 7 ∷ Number 26 ∷ Number 35 ∷ []
standard_constants Q2_1 = Text (codes "MFGR#12") ∷ Text (codes "AMERICA") ∷ []
standard_constants Q2_2 = Text (codes "MFGR#2221") ∷ Text (codes "MFGR#2228") ∷ Text (codes "ASIA") ∷ []
standard_constants Q2_3 = Text (codes "MFGR#2239") ∷ Text (codes "EUROPE") ∷ []
standard_constants Q3_1 = Text (codes "ASIA") ∷ Text (codes "ASIA") ∷ Number 1992 ∷ Number 1997 ∷ []
standard_constants Q3_2 = Text (codes "UNITED STATES") ∷ Text (codes "UNITED STATES") ∷ Number 1992 ∷ Number 1997 ∷ []
standard_constants Q3_3 = Text (codes "UNITED KI1") ∷ Text (codes "UNITED KI5") ∷ Text (codes "UNITED KI1")
    ∷ Text (codes "UNITED KI5") ∷ Number 1992 ∷ Number 1997 ∷ []
standard_constants Q3_4 = Text (codes "UNITED KI1") ∷ Text (codes "UNITED KI5") ∷ Text (codes "UNITED KI1")
    ∷ Text (codes "UNITED KI5") ∷ Text (codes "Dec1997") ∷ []
standard_constants Q4_1 = Text (codes "AMERICA") ∷ Text (codes "AMERICA") ∷ Text (codes "MFGR#1")
    ∷ Text (codes "MFGR#2") ∷ []
standard_constants Q4_2 = Text (codes "AMERICA") ∷ Text (codes "AMERICA") ∷ Text (codes "MFGR#1")
    ∷ Text (codes "MFGR#2") ∷ Number 1997 ∷ Number 1998 ∷ []
standard_constants Q4_3 = Text (codes "AMERICA") ∷ Text (codes "UNITED STATES") ∷ Number 1997 ∷ Number 1998
    ∷ Text (codes "MFGR#14") ∷ []
standard_constants Star = []

-- the constant at a place, counted from 0; the number 0, or the empty text, where there is none of its kind
abbrev pub number_of : Option Value → ℕ
number_of None = 0
number_of (Some (Text text)) = 0
number_of (Some (Number number)) = number

abbrev pub number_at : List Value → ℕ → ℕ
number_at constants place = number_of (slice_get constants place)

abbrev pub text_of : Option Value → List ℕ
text_of None = []
text_of (Some (Text text)) = text
text_of (Some (Number number)) = []

abbrev pub text_at : List Value → ℕ → List ℕ
text_at constants place = text_of (slice_get constants place)

-- tests and ranges whose constants stand from a place on
abbrev pub text_is : Column → List Value → ℕ → Test
text_is column constants place = record { column = column; cond = TextIs (text_at constants place) }

abbrev pub text_from_to : Column → List Value → ℕ → Test
text_from_to column constants place = record {
  column = column;
  cond = TextFromTo (text_at constants place)
      (text_at constants (place + 1));
}

abbrev pub text_one_of_two : Column → List Value → ℕ → Test
text_one_of_two column constants place = record {
  column = column;
  cond = TextOneOf
      (text_at constants place ∷ text_at constants (place + 1) ∷ []);
}

abbrev pub number_is : Column → List Value → ℕ → Test
number_is column constants place = record { column = column; cond = NumberIs (number_at constants place) }

abbrev pub number_from_to : Column → List Value → ℕ → Test
number_from_to column constants place = record {
  column = column;
  cond = NumberFromTo (number_at constants place)
      (number_at constants (place + 1));
}

abbrev pub number_one_of_two : Column → List Value → ℕ → Test
number_one_of_two column constants place = record {
  column = column;
  cond = NumberOneOf
      (number_at constants place ∷ number_at constants (place + 1) ∷ []);
}

abbrev pub range : List Value → ℕ → Option NumberRange
range constants place = Some (record { from = number_at constants place; to = number_at constants (place + 1) })

-- a plan that takes every combination
abbrev pub over_all_lines : Measure → List Column → List OrderKey → Plan
over_all_lines measure groups order = record {
  customers = [];
  suppliers = [];
  parts = [];
  dates = [];
  quantity = None;
  discount = None;
  measure = measure;
  groups = groups;
  order = order;
}

-- in ascending order of all group columns
abbrev pub by_two_columns : List OrderKey
by_two_columns = Group 0 ∷ Group 1 ∷ []

abbrev pub by_three_columns : List OrderKey
by_three_columns = Group 0 ∷ Group 1 ∷ Group 2 ∷ []

-- of customer's column, supplier's column and year: by year, then from the greatest sum down, then by the two columns
abbrev pub by_year_and_sum : List OrderKey
by_year_and_sum = Group 2 ∷ SumDescending ∷ Group 0 ∷ Group 1 ∷ []

-- the plan of each query over its constants, counted from 0
abbrev pub plan_over : Query → List Value → Plan
plan_over Q1_1 constants = record (over_all_lines PriceTimesDiscount [] []) {
  dates = number_is D_YEAR constants 0 ∷ [];
  discount = range constants 1;
  quantity = range constants 3;
}
plan_over Q1_2 constants = record (over_all_lines PriceTimesDiscount [] []) {
  dates = number_is D_YEARMONTHNUM constants 0 ∷ [];
  discount = range constants 1;
  quantity = range constants 3;
}
plan_over Q1_3 constants = record (over_all_lines PriceTimesDiscount [] []) {
  dates = number_is D_WEEKNUMINYEAR constants 0 ∷ number_is D_YEAR constants 1 ∷ [];
  discount = range constants 2;
  quantity = range constants 4;
}
plan_over Q2_1 constants = record (over_all_lines Revenue (D_YEAR ∷ P_BRAND1 ∷ []) by_two_columns) {
  parts = text_is P_CATEGORY constants 0 ∷ [];
  suppliers = text_is S_REGION constants 1 ∷ [];
}
plan_over Q2_2 constants = record (over_all_lines Revenue (D_YEAR ∷ P_BRAND1 ∷ []) by_two_columns) {
  parts = text_from_to P_BRAND1 constants 0 ∷ [];
  suppliers = text_is S_REGION constants 2 ∷ [];
}
plan_over Q2_3 constants = record (over_all_lines Revenue (D_YEAR ∷ P_BRAND1 ∷ []) by_two_columns) {
  parts = text_is P_BRAND1 constants 0 ∷ [];
  suppliers = text_is S_REGION constants 1 ∷ [];
}
plan_over Q3_1 constants = record (over_all_lines Revenue (C_NATION ∷ S_NATION ∷ D_YEAR ∷ []) by_year_and_sum) {
  customers = text_is C_REGION constants 0 ∷ [];
  suppliers = text_is S_REGION constants 1 ∷ [];
  dates = number_from_to D_YEAR constants 2 ∷ [];
}
plan_over Q3_2 constants = record (over_all_lines Revenue (C_CITY ∷ S_CITY ∷ D_YEAR ∷ []) by_year_and_sum) {
  customers = text_is C_NATION constants 0 ∷ [];
  suppliers = text_is S_NATION constants 1 ∷ [];
  dates = number_from_to D_YEAR constants 2 ∷ [];
}
plan_over Q3_3 constants = record (over_all_lines Revenue (C_CITY ∷ S_CITY ∷ D_YEAR ∷ []) by_year_and_sum) {
  customers = text_one_of_two C_CITY constants 0 ∷ [];
  suppliers = text_one_of_two S_CITY constants 2 ∷ [];
  dates = number_from_to D_YEAR constants 4 ∷ [];
}
plan_over Q3_4 constants = record (over_all_lines Revenue (C_CITY ∷ S_CITY ∷ D_YEAR ∷ []) by_year_and_sum) {
  customers = text_one_of_two C_CITY constants 0 ∷ [];
  suppliers = text_one_of_two S_CITY constants 2 ∷ [];
  dates = text_is D_YEARMONTH constants 4 ∷ [];
}
plan_over Q4_1 constants = record (over_all_lines Profit (D_YEAR ∷ C_NATION ∷ []) by_two_columns) {
  customers = text_is C_REGION constants 0 ∷ [];
  suppliers = text_is S_REGION constants 1 ∷ [];
  parts = text_one_of_two P_MFGR constants 2 ∷ [];
}
plan_over Q4_2 constants = record (over_all_lines Profit (D_YEAR ∷ S_NATION ∷ P_CATEGORY ∷ []) by_three_columns) {
  customers = text_is C_REGION constants 0 ∷ [];
  suppliers = text_is S_REGION constants 1 ∷ [];
  parts = text_one_of_two P_MFGR constants 2 ∷ [];
  dates = number_one_of_two D_YEAR constants 4 ∷ [];
}
plan_over Q4_3 constants = record (over_all_lines Profit (D_YEAR ∷ S_CITY ∷ P_BRAND1 ∷ []) by_three_columns) {
  customers = text_is C_REGION constants 0 ∷ [];
  suppliers = text_is S_NATION constants 1 ∷ [];
  dates = number_one_of_two D_YEAR constants 2 ∷ [];
  parts = text_is P_CATEGORY constants 4 ∷ [];
}
plan_over Star constants = star_plan_over constants

-- the plan of a query over the constants that it has where none are given
abbrev pub plan_of : Query → Plan
plan_of query = plan_over query (standard_constants query)

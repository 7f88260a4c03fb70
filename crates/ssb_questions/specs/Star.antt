-- The plan that the clauses of a star question spell.
use Rattle.std.specs.Prelude.{ℕ, Bool, true, false, List, [], ◌∷◌, ◌++◌, length, map, Option, None, Some, option_map}
use Rattle.std.specs.Prelude.{unwrap_or, slice_get, if◌then◌else◌}
use Rattle.std.specs.List.{filter_map, list_any, range_with_len}
use Rattle.ssb_schema.specs.Columns.{C_CITY, C_NATION, C_REGION, C_MKTSEGMENT, S_CITY, S_NATION, S_REGION, P_MFGR}
use Rattle.ssb_schema.specs.Columns.{P_CATEGORY, P_BRAND1, D_DATEKEY, D_DAYOFWEEK, D_MONTH, D_YEAR, D_YEARMONTHNUM}
use Rattle.ssb_schema.specs.Columns.{D_YEARMONTH, D_WEEKNUMINYEAR, D_SELLINGSEASON, D_HOLIDAYFL}
use Rattle.ssb_schema.specs.declared.column.Column.{Column}
use Rattle.ssb_questions.specs.Clause.{Clause, Sums, GroupsBy, Is, IsNot, FromTo, QuantityIn, DiscountIn, BySum}
use Rattle.ssb_questions.specs.Clause.{kind_in}
use Rattle.ssb_questions.specs.Clauses.{same_column, clauses_of}
use Rattle.ssb_questions.specs.declared.cond.Cond.{Cond}
use Rattle.ssb_questions.specs.declared.cond.Cond.TheVariants.{TextIs, TextFromTo, TextOneOf, NumberIs, NumberFromTo}
use Rattle.ssb_questions.specs.declared.cond.Cond.TheVariants.{NumberOneOf, TextNoneOf, NumberNoneOf}
use Rattle.ssb_questions.specs.declared.cond.Test.{Test}
use Rattle.ssb_questions.specs.declared.kind.ConstantKind.{ConstantKind}
use Rattle.ssb_questions.specs.declared.kind.ConstantKind.TheVariants as kind
use Rattle.ssb_questions.specs.declared.plan.Measure.{Measure}
use Rattle.ssb_questions.specs.declared.plan.Measure.TheVariants as measure
use Rattle.ssb_questions.specs.declared.plan.NumberRange.{NumberRange}
use Rattle.ssb_questions.specs.declared.plan.OrderKey.{OrderKey}
use Rattle.ssb_questions.specs.declared.plan.OrderKey.TheVariants.{Group, SumDescending}
use Rattle.ssb_questions.specs.declared.plan.Plan.{Plan}
use Rattle.ssb_questions.specs.declared.value.Value.{Value}
use Rattle.ssb_questions.specs.declared.value.Value.TheVariants.{Text, Number}

-- what a clause says of one thing
abbrev pub sum_in : Clause → Option Measure
sum_in (Sums m) = Some m
sum_in _ = None

abbrev pub group_in : Clause → Option Column
group_in (GroupsBy column) = Some column
group_in _ = None

abbrev pub quantity_in : Clause → Option NumberRange
quantity_in (QuantityIn range) = Some range
quantity_in _ = None

abbrev pub discount_in : Clause → Option NumberRange
discount_in (DiscountIn range) = Some range
discount_in _ = None

abbrev pub is_order : Clause → Bool
is_order BySum = true
is_order _ = false

-- the text, the number, the texts or the numbers that a clause looks for in a column
abbrev pub text_in : Column → Clause → Option (List ℕ)
text_in column (Is own (Text text)) = if same_column own column then Some text else None
text_in column _ = None

abbrev pub number_in : Column → Clause → Option ℕ
number_in column (Is own (Number number)) = if same_column own column then Some number else None
number_in column _ = None

-- the text, or the number, that a clause excludes
abbrev pub text_out : Column → Clause → Option (List ℕ)
text_out column (IsNot own (Text text)) = if same_column own column then Some text else None
text_out column _ = None

abbrev pub number_out : Column → Clause → Option ℕ
number_out column (IsNot own (Number number)) = if same_column own column then Some number else None
number_out column _ = None

abbrev pub texts_in : Column → Clause → Option (List ℕ × List ℕ)
texts_in column (FromTo own (Text from) (Text to)) = if same_column own column then Some (from, to) else None
texts_in column _ = None

abbrev pub numbers_in : Column → Clause → Option (ℕ × ℕ)
numbers_in column (FromTo own (Number from) (Number to)) = if same_column own column then Some (from, to) else None
numbers_in column _ = None

-- the first thing that some clause says
abbrev pub first_in : {X : Type 0} → (Clause → Option X) → List Clause → Option X
first_in says clauses = slice_get (filter_map says clauses) 0

-- one value alone, or one of several
abbrev pub one_of_texts : List (List ℕ) → Option Cond
one_of_texts [] = None
one_of_texts (text ∷ []) = Some (TextIs text)
one_of_texts (text ∷ other ∷ texts) = Some (TextOneOf (text ∷ other ∷ texts))

abbrev pub one_of_numbers : List ℕ → Option Cond
one_of_numbers [] = None
one_of_numbers (number ∷ []) = Some (NumberIs number)
one_of_numbers (number ∷ other ∷ numbers) = Some (NumberOneOf (number ∷ other ∷ numbers))

-- none of these, where there are some
abbrev pub none_of_texts : List (List ℕ) → Option Cond
none_of_texts [] = None
none_of_texts (text ∷ texts) = Some (TextNoneOf (text ∷ texts))

abbrev pub none_of_numbers : List ℕ → Option Cond
none_of_numbers [] = None
none_of_numbers (number ∷ numbers) = Some (NumberNoneOf (number ∷ numbers))

-- from one value to another, else one of the values
abbrev pub text_cond : Option (List ℕ × List ℕ) → List (List ℕ) → Option Cond
text_cond (Some ends) texts = Some (TextFromTo ends.0 ends.1)
text_cond None texts = one_of_texts texts

abbrev pub number_cond : Option (ℕ × ℕ) → List ℕ → Option Cond
number_cond (Some ends) numbers = Some (NumberFromTo ends.0 ends.1)
number_cond None numbers = one_of_numbers numbers

-- what the clauses ask of a column, by what is looked for there
abbrev pub cond_by : ConstantKind → Column → List Clause → Option Cond
cond_by (kind.Text own) column clauses =
    text_cond (first_in (texts_in column) clauses) (filter_map (text_in column) clauses)
cond_by kind.Number column clauses =
    number_cond (first_in (numbers_in column) clauses) (filter_map (number_in column) clauses)

abbrev pub cond_of : List Clause → Column → Option Cond
cond_of clauses column = cond_by (kind_in column) column clauses

-- what the clauses exclude of a column, by what is looked for there
abbrev pub exclusion_by : ConstantKind → Column → List Clause → Option Cond
exclusion_by (kind.Text own) column clauses = none_of_texts (filter_map (text_out column) clauses)
exclusion_by kind.Number column clauses = none_of_numbers (filter_map (number_out column) clauses)

abbrev pub exclusion_of : List Clause → Column → Option Cond
exclusion_of clauses column = exclusion_by (kind_in column) column clauses

-- the tests of a column, if the clauses ask anything of it, or exclude something
abbrev pub test_of : List Clause → Column → Option Test
test_of clauses column = option_map (λ cond. record { column = column; cond = cond }) (cond_of clauses column)

abbrev pub exclusion_test : List Clause → Column → Option Test
exclusion_test clauses column =
    option_map (λ cond. record { column = column; cond = cond }) (exclusion_of clauses column)

-- what is asked of columns, and then what is excluded
abbrev pub tests_of : List Clause → List Column → List Test
tests_of clauses columns = filter_map (test_of clauses) columns ++ filter_map (exclusion_test clauses) columns

-- by the sum, if a clause says so, and then by the group columns
abbrev pub order_of : Bool → ℕ → List OrderKey
order_of true groups = SumDescending ∷ map Group (range_with_len 0 groups)
order_of false groups = map Group (range_with_len 0 groups)

-- the columns of each dimension, in the order in which they are tested
abbrev pub customer_columns : List Column
customer_columns = C_CITY ∷ C_NATION ∷ C_REGION ∷ C_MKTSEGMENT ∷ []

abbrev pub supplier_columns : List Column
supplier_columns = S_CITY ∷ S_NATION ∷ S_REGION ∷ []

abbrev pub part_columns : List Column
part_columns = P_MFGR ∷ P_CATEGORY ∷ P_BRAND1 ∷ []

abbrev pub date_columns : List Column
date_columns =
    D_DATEKEY ∷ D_DAYOFWEEK ∷ D_MONTH ∷ D_YEAR ∷ D_YEARMONTHNUM ∷ D_YEARMONTH ∷ D_WEEKNUMINYEAR ∷ D_SELLINGSEASON
    ∷ D_HOLIDAYFL ∷ []

-- the measure, the group columns in their order, the tests of each column, and the order of the rows; the number of
-- the lines where no measure is said
abbrev pub star_plan : List Clause → Plan
star_plan clauses = record {
  customers = tests_of clauses customer_columns;
  suppliers = tests_of clauses supplier_columns;
  parts = tests_of clauses part_columns;
  dates = tests_of clauses date_columns;
  quantity = first_in quantity_in clauses;
  discount = first_in discount_in clauses;
  measure = unwrap_or (first_in sum_in clauses) measure.Lines;
  groups = filter_map group_in clauses;
  order = order_of (list_any is_order clauses) (length (filter_map group_in clauses));
}

-- the plan of a star question over its constants
abbrev pub star_plan_over : List Value → Plan
star_plan_over constants = star_plan (clauses_of constants)

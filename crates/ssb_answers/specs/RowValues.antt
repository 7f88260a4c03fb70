-- What the rows of the dimensions have in the columns that queries test or group by, and when they pass tests.
use Rattle.std.specs.Prelude.{ℕ, Bool, true, ◌&&◌, nat_eq, nat_le, List, Option, None, Some, if◌then◌else◌}
use Rattle.std.specs.List.{list_all}
use Rattle.ssb_schema.specs.Columns.{C_CITY, C_NATION, C_REGION, C_MKTSEGMENT, S_CITY, S_NATION, S_REGION, P_MFGR}
use Rattle.ssb_schema.specs.Columns.{P_CATEGORY, P_BRAND1, D_DATEKEY, D_DAYOFWEEK, D_MONTH, D_YEAR, D_YEARMONTHNUM}
use Rattle.ssb_schema.specs.Columns.{D_YEARMONTH, D_WEEKNUMINYEAR, D_SELLINGSEASON, D_HOLIDAYFL}
use Rattle.ssb_schema.specs.declared.customer.CustomerFields.{CustomerFields}
use Rattle.ssb_schema.specs.declared.supplier.SupplierFields.{SupplierFields}
use Rattle.ssb_schema.specs.declared.part.PartFields.{PartFields}
use Rattle.ssb_schema.specs.declared.date.DateFields.{DateFields}
use Rattle.ssb_questions.specs.declared.value.Value.{Value}
use Rattle.ssb_questions.specs.declared.value.Value.TheVariants.{Text, Number}
use Rattle.ssb_questions.specs.declared.cond.Test.{Test}
use Rattle.ssb_questions.specs.declared.plan.NumberRange.{NumberRange}
use Rattle.ssb_questions.specs.Cond.{holds}

-- the value at a place of the customer's columns, counted from 1
abbrev pub customer_value : ℕ → CustomerFields → Value
customer_value place customer =
    if nat_eq place C_CITY.place then Text customer.city else
    if nat_eq place C_NATION.place then Text customer.nation else
    if nat_eq place C_REGION.place then Text customer.region else
    if nat_eq place C_MKTSEGMENT.place then Text customer.market_segment else
    Number 0

abbrev pub supplier_value : ℕ → SupplierFields → Value
supplier_value place supplier =
    if nat_eq place S_CITY.place then Text supplier.city else
    if nat_eq place S_NATION.place then Text supplier.nation else
    if nat_eq place S_REGION.place then Text supplier.region else
    Number 0

abbrev pub part_value : ℕ → PartFields → Value
part_value place part =
    if nat_eq place P_MFGR.place then Text part.manufacturer else
    if nat_eq place P_CATEGORY.place then Text part.category else
    if nat_eq place P_BRAND1.place then Text part.brand else
    Number 0

abbrev pub date_value : ℕ → DateFields → Value
date_value place date =
    if nat_eq place D_DATEKEY.place then Number date.key else
    if nat_eq place D_DAYOFWEEK.place then Text date.day_of_week else
    if nat_eq place D_MONTH.place then Text date.month else
    if nat_eq place D_YEAR.place then Number date.year else
    if nat_eq place D_YEARMONTHNUM.place then Number date.year_month_number else
    if nat_eq place D_YEARMONTH.place then Text date.year_month else
    if nat_eq place D_WEEKNUMINYEAR.place then Number date.week else
    if nat_eq place D_SELLINGSEASON.place then Text date.selling_season else
    if nat_eq place D_HOLIDAYFL.place then Text date.holiday_flag else
    Number 0

-- whether a row, given by its columns, passes all tests
abbrev pub pass : List Test → (ℕ → Value) → Bool
pass tests value = list_all (λ test. holds test.cond (value test.column.place)) tests

-- whether a number lies in the range, both ends included, if there is one
abbrev pub is_within : Option NumberRange → ℕ → Bool
is_within None number = true
is_within (Some range) number = nat_le range.from number && nat_le number range.to

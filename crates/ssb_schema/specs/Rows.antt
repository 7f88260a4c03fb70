-- The values of a row of each table, in the order of its columns.
use Rattle.std.specs.Prelude.{◌<◌, ◌≤◌, ◌^◌, List, [], ◌∷◌}
use Rattle.ssb_schema.specs.Columns.{Value, Number, Text}
use Rattle.ssb_schema.specs.declared.customer.CustomerFields.{CustomerFields}
use Rattle.ssb_schema.specs.declared.supplier.SupplierFields.{SupplierFields}
use Rattle.ssb_schema.specs.declared.part.PartFields.{PartFields}
use Rattle.ssb_schema.specs.declared.date.DateFields.{DateFields}
use Rattle.ssb_schema.specs.declared.line.LineFields.{LineFields}

abbrev pub customer_values : CustomerFields → List Value
customer_values row =
    Number row.key ∷ Text row.name ∷ Text row.address ∷ Text row.city ∷ Text row.nation ∷ Text row.region
    ∷ Text row.phone ∷ Text row.market_segment ∷ []

abbrev pub supplier_values : SupplierFields → List Value
supplier_values row =
    Number row.key ∷ Text row.name ∷ Text row.address ∷ Text row.city ∷ Text row.nation ∷ Text row.region
    ∷ Text row.phone ∷ []

abbrev pub part_values : PartFields → List Value
part_values row =
    Number row.key ∷ Text row.name ∷ Text row.manufacturer ∷ Text row.category ∷ Text row.brand ∷ Text row.color
    ∷ Text row.part_type ∷ Text row.size ∷ Text row.container ∷ []

abbrev pub date_values : DateFields → List Value
date_values row =
    Number row.key ∷ Text row.date_text ∷ Text row.day_of_week ∷ Text row.month ∷ Number row.year
    ∷ Number row.year_month_number ∷ Text row.year_month ∷ Text row.day_in_week ∷ Text row.day_in_month ∷ Text row.day_in_year
    ∷ Text row.month_in_year ∷ Number row.week ∷ Text row.selling_season ∷ Text row.last_day_in_week_flag ∷ Text row.last_day_in_month_flag ∷ Text row.holiday_flag
    ∷ Text row.weekday_flag ∷ []

abbrev pub line_values : LineFields → List Value
line_values line =
    Number line.order_key ∷ Number line.line_number ∷ Number line.customer_key ∷ Number line.part_key
    ∷ Number line.supplier_key ∷ Number line.order_date ∷ Text line.texts.order_priority ∷ Text line.texts.ship_priority
    ∷ Number line.quantity ∷ Number line.extended_price ∷ Number line.order_total_price ∷ Number line.discount
    ∷ Number line.revenue ∷ Number line.supply_cost ∷ Number line.tax ∷ Number line.commit_date
    ∷ Text line.texts.ship_mode ∷ []

-- the numbers of a line are within their columns' ranges
pub record IsWithinLimits (line : LineFields) : Type 0 where
  pub line_number : (1 ≤ line.line_number) × (line.line_number ≤ 7)
  pub quantity : (1 ≤ line.quantity) × (line.quantity ≤ 50)
  pub extended_price : line.extended_price < 2 ^ 32
  pub order_total_price : line.order_total_price < 2 ^ 32
  pub discount : line.discount ≤ 10
  pub revenue : line.revenue < 2 ^ 32
  pub supply_cost : line.supply_cost < 2 ^ 32
  pub tax : line.tax ≤ 8

-- The values of the dimensions' columns, row by row.
use Rattle.std.specs.Prelude.{ℕ, List, [], map}
use Rattle.ssb_schema.specs.declared.column.Column.{Column}
use Rattle.ssb_schema.specs.declared.table.Table.{Table}
use Rattle.ssb_schema.specs.declared.table.Table.TheVariants as table
use Rattle.ssb_base.specs.Base.{Dimensions, Tables}
use Rattle.ssb_questions.specs.declared.value.Value.{Value}
use Rattle.ssb_answers.specs.RowValues.{customer_value, supplier_value, part_value, date_value}

-- what a dimension's rows have at a place of its columns, counted from 1; no query reads a column of the fact table
abbrev pub values_in : Dimensions → Table → ℕ → List Value
values_in d table.Customer place = map (customer_value place) d.customers
values_in d table.Supplier place = map (supplier_value place) d.suppliers
values_in d table.Part place = map (part_value place) d.parts
values_in d table.Date place = map (date_value place) d.dates
values_in d table.Lineorder place = []

abbrev pub values_at : Tables → Table → ℕ → List Value
values_at base t place = values_in base.dimensions t place

abbrev pub values_of : Tables → Column → List Value
values_of base column = values_at base column.table column.place

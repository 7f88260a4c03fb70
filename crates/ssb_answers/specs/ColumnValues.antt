-- What queries read in a column is what the row has there.
use Rattle.std.specs.Prelude.{◌≡◌, ◌-◌, List, [], Some, slice_get}
use Rattle.ssb_schema.specs.Columns.{query_columns}
use Rattle.ssb_schema.specs.Columns as rows
use Rattle.ssb_schema.specs.Rows.{customer_values, supplier_values, part_values, date_values}
use Rattle.ssb_schema.specs.declared.column.Column.{Column}
use Rattle.ssb_schema.specs.declared.table.Table.{Table}
use Rattle.ssb_schema.specs.declared.table.Table.TheVariants as table
use Rattle.ssb_questions.specs.Members.{Has}
use Rattle.ssb_questions.specs.declared.value.Value.{Value}
use Rattle.ssb_questions.specs.declared.value.Value.TheVariants.{Text, Number}
use Rattle.ssb_answers.specs.Combination.{Combination, value_at}

-- a value as the row of a table has it
abbrev pub in_row : Value → rows.Value
in_row (Text text) = rows.Text text
in_row (Number number) = rows.Number number

-- the values of a combination's row of a dimension, in the order of the table's columns
abbrev pub row_in : Table → Combination → List rows.Value
row_in table.Customer combination = customer_values combination.customer
row_in table.Supplier combination = supplier_values combination.supplier
row_in table.Part combination = part_values combination.part
row_in table.Date combination = date_values combination.date
row_in table.Lineorder combination = []

-- in each column that queries read, the value is that of the row at the column's place
abbrev pub ColumnsHaveTheirValues : Type 0
ColumnsHaveTheirValues =
    (column : Column) (combination : Combination) → Has query_columns column
    → slice_get (row_in column.table combination) (column.place - 1) ≡ Some (in_row (value_at column combination))

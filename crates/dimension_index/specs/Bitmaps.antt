-- Which rows of a dimension pass tests, by the words that the meaning of queries uses.
use Rattle.std.specs.Prelude.{Bool, ◌&&◌, List, [], map, zip}
use Rattle.ssb_schema.specs.declared.table.Table.{Table}
use Rattle.ssb_schema.specs.declared.table.Table.TheVariants as table
use Rattle.ssb_base.specs.Base.{Tables}
use Rattle.ssb_questions.specs.declared.cond.Test.{Test}
use Rattle.ssb_answers.specs.RowValues.{customer_value, supplier_value, part_value, date_value, pass}

-- row by row, whether the dimension's row passes all tests
abbrev pub bits_of : Tables → Table → List Test → List Bool
bits_of base table.Customer tests = map (λ row. pass tests (λ place. customer_value place row))
    base.dimensions.customers
bits_of base table.Supplier tests = map (λ row. pass tests (λ place. supplier_value place row))
    base.dimensions.suppliers
bits_of base table.Part tests = map (λ row. pass tests (λ place. part_value place row)) base.dimensions.parts
bits_of base table.Date tests = map (λ row. pass tests (λ place. date_value place row)) base.dimensions.dates
bits_of base table.Lineorder tests = []

-- the rows that are left of some by one more test, told row by row
abbrev pub narrowed : List Bool → List Bool → List Bool
narrowed rows passes = map (λ row. row.0 && row.1) (zip rows passes)

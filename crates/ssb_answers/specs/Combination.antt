-- The lines joined with the dimensions, and the combinations that a plan's tests leave.
use Rattle.std.specs.Prelude.{ℕ, Bool, ◌&&◌, nat_eq, List, map, filter}
use Rattle.std.specs.List.{flat_map}
use Rattle.ssb_base.specs.Base.{Dimensions}
use Rattle.ssb_schema.specs.declared.fact.Fact.{Fact}
use Rattle.ssb_schema.specs.declared.customer.CustomerFields.{CustomerFields}
use Rattle.ssb_schema.specs.declared.supplier.SupplierFields.{SupplierFields}
use Rattle.ssb_schema.specs.declared.part.PartFields.{PartFields}
use Rattle.ssb_schema.specs.declared.date.DateFields.{DateFields}
use Rattle.ssb_schema.specs.declared.table.Table.{Table}
use Rattle.ssb_schema.specs.declared.table.Table.TheVariants as table
use Rattle.ssb_schema.specs.declared.column.Column.{Column}
use Rattle.ssb_questions.specs.declared.value.Value.{Value}
use Rattle.ssb_questions.specs.declared.value.Value.TheVariants.{Number}
use Rattle.ssb_questions.specs.declared.plan.Plan.{Plan}
use Rattle.ssb_answers.specs.RowValues.{customer_value, supplier_value, part_value, date_value, pass, is_within}

-- a line, by what queries read of it, with a row of each dimension
pub record Combination : Type 0 where
  pub fact : Fact
  pub customer : CustomerFields
  pub supplier : SupplierFields
  pub part : PartFields
  pub date : DateFields

-- every combination of the line with rows that have the keys which it names
abbrev pub joined_with : Dimensions → Fact → List Combination
joined_with dimensions fact =
    flat_map (λ customer.
    flat_map (λ supplier.
    flat_map (λ part.
    map (λ date. record { fact = fact; customer = customer; supplier = supplier; part = part; date = date })
    (filter (λ date. nat_eq date.key fact.date) dimensions.dates))
    (filter (λ part. nat_eq part.key fact.part) dimensions.parts))
    (filter (λ supplier. nat_eq supplier.key fact.supplier) dimensions.suppliers))
    (filter (λ customer. nat_eq customer.key fact.customer) dimensions.customers)

-- every combination of a line with the rows that it names
abbrev pub joined : Dimensions → List Fact → List Combination
joined dimensions facts = flat_map (joined_with dimensions) facts

-- what a combination has in a column; queries test and group by columns of the dimensions alone
abbrev pub value_in : Table → ℕ → Combination → Value
value_in table.Customer place combination = customer_value place combination.customer
value_in table.Supplier place combination = supplier_value place combination.supplier
value_in table.Part place combination = part_value place combination.part
value_in table.Date place combination = date_value place combination.date
value_in table.Lineorder place combination = Number 0

abbrev pub value_at : Column → Combination → Value
value_at column combination = value_in column.table column.place combination

-- whether the line's own numbers lie in the plan's ranges
abbrev pub is_in_ranges : Plan → Fact → Bool
is_in_ranges plan fact = is_within plan.quantity fact.quantity && is_within plan.discount fact.discount

-- whether the combination passes the plan's tests
abbrev pub passes : Plan → Combination → Bool
passes plan combination =
    is_in_ranges plan combination.fact
    && pass plan.customers (λ place. customer_value place combination.customer)
    && pass plan.suppliers (λ place. supplier_value place combination.supplier)
    && pass plan.parts (λ place. part_value place combination.part)
    && pass plan.dates (λ place. date_value place combination.date)

-- the combinations that a query is about
abbrev pub combinations : Plan → Dimensions → List Fact → List Combination
combinations plan dimensions facts = filter (passes plan) (joined dimensions facts)

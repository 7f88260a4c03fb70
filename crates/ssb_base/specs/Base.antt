-- What the tables of a base keep between them.
use Rattle.std.specs.Prelude.{◌≡◌, ℕ, ◌+◌, ◌≤◌, Bool, true, not, ◌&&◌, List, [], length, All, Option, Some, None}
use Rattle.std.specs.Prelude.{nat_eq, nat_lt, if◌then◌else◌}
use Rattle.std.specs.List.{list_any, find}
use Rattle.std.specs.Option.{option_map}
use Rattle.ssb_schema.specs.Columns.{or_else}
use Rattle.ssb_schema.specs.FirstFault.{rows_fault, AreDistinct}
pub use Rattle.ssb_schema.specs.Keys.{customer_key, supplier_key, part_key, date_key}
use Rattle.ssb_schema.specs.declared.customer.CustomerFields.{CustomerFields}
use Rattle.ssb_schema.specs.declared.date.DateFields.{DateFields}
use Rattle.ssb_schema.specs.declared.fault.SchemaFault.{SchemaFault}
use Rattle.ssb_schema.specs.declared.fault.SchemaFault.TheVariants as fault
use Rattle.ssb_base.specs.declared.limits.Limits.{Limits}
use Rattle.ssb_schema.specs.declared.line.LineFields.{LineFields}
use Rattle.ssb_schema.specs.declared.part.PartFields.{PartFields}
use Rattle.ssb_schema.specs.declared.supplier.SupplierFields.{SupplierFields}
use Rattle.ssb_schema.specs.declared.table.Table.{Table}
use Rattle.ssb_schema.specs.declared.table.Table.TheVariants as table

-- the four dimensions, as plain lists of rows
pub record Dimensions : Type 0 where
  pub customers : List CustomerFields
  pub suppliers : List SupplierFields
  pub parts : List PartFields
  pub dates : List DateFields

-- a base: the dimensions, the loaded lines, and how large the warehouse may grow
pub record Tables : Type 0 where
  pub limits : Limits
  pub dimensions : Dimensions
  pub lines : List LineFields

-- whether some row has the key
abbrev pub has_key : {R : Type 0} → (R → ℕ) → List R → ℕ → Bool
has_key key rows k = list_any (λ row. nat_eq (key row) k) rows

-- the first row that has the key
abbrev pub row_with : {R : Type 0} → (R → ℕ) → List R → ℕ → Option R
row_with key rows k = find (λ row. nat_eq (key row) k) rows

abbrev pub has_key_of : {R : Type 0} → (R → ℕ) → R → R → Bool
has_key_of key earlier row = nat_eq (key earlier) (key row)

-- whether two lines have one order key and one line number
abbrev pub is_same_line : LineFields → LineFields → Bool
is_same_line earlier line = nat_eq earlier.order_key line.order_key && nat_eq earlier.line_number line.line_number

-- a row that is the same as an earlier one by this test; its number is one more than there are rows before it
abbrev pub repeated_fault : {R : Type 0} → Table → (R → R → Bool) → List R → R → Option SchemaFault
repeated_fault t same earlier row =
    if list_any (λ e. same e row) earlier then Some (fault.KeyRepeated t (length earlier + 1)) else None

-- the first dimension that has no row of the key which the line names
abbrev pub unknown_of : Dimensions → LineFields → Option Table
unknown_of dimensions line =
    if not (has_key customer_key dimensions.customers line.customer_key) then Some table.Customer
    else if not (has_key supplier_key dimensions.suppliers line.supplier_key) then Some table.Supplier
    else if not (has_key part_key dimensions.parts line.part_key) then Some table.Part
    else if not (has_key date_key dimensions.dates line.order_date) then Some table.Date
    else None

-- a line that an earlier one repeats, or that names an unknown row
abbrev pub line_fault : Dimensions → List LineFields → LineFields → Option SchemaFault
line_fault dimensions earlier line =
    or_else (repeated_fault table.Lineorder is_same_line earlier line)
    (option_map (λ t. fault.UnknownKey (length earlier + 1) t) (unknown_of dimensions line))

-- the first fault of a table's rows: too many of them, and then row by row
abbrev pub table_fault : {R : Type 0} → ℕ → Table → (List R → R → Option SchemaFault) → List R → Option SchemaFault
table_fault limit t fault_after rows =
    if nat_lt limit (length rows) then Some (fault.TooManyRows t) else rows_fault fault_after [] rows

-- the first fault of a dimension: too many rows, or a repeated key
abbrev pub dimension_fault : {R : Type 0} → Limits → Table → (R → ℕ) → List R → Option SchemaFault
dimension_fault limits t key rows = table_fault limits.dimension_rows t (repeated_fault t (has_key_of key)) rows

-- the first fault of a base, in the order of the tables
abbrev pub base_fault : Tables → Option SchemaFault
base_fault base =
    or_else (dimension_fault base.limits table.Customer customer_key base.dimensions.customers)
    (or_else (dimension_fault base.limits table.Supplier supplier_key base.dimensions.suppliers)
    (or_else (dimension_fault base.limits table.Part part_key base.dimensions.parts)
    (or_else (dimension_fault base.limits table.Date date_key base.dimensions.dates)
    (table_fault base.limits.lines table.Lineorder (line_fault base.dimensions) base.lines))))

-- a dimension has distinct keys, and no more rows than the limits allow
pub record IsDimension {R : Type 0} (limits : Limits) (key : R → ℕ) (rows : List R) : Type 0 where
  pub few : length rows ≤ limits.dimension_rows
  pub distinct : AreDistinct (has_key_of key) rows

-- each dimension has a row of the key which the line names
pub record IsKnown (dimensions : Dimensions) (line : LineFields) : Type 0 where
  pub customer : has_key customer_key dimensions.customers line.customer_key ≡ true
  pub supplier : has_key supplier_key dimensions.suppliers line.supplier_key ≡ true
  pub part : has_key part_key dimensions.parts line.part_key ≡ true
  pub date : has_key date_key dimensions.dates line.order_date ≡ true

-- what every base keeps
pub record IsSound (base : Tables) : Type 0 where
  pub customers : IsDimension base.limits customer_key base.dimensions.customers
  pub suppliers : IsDimension base.limits supplier_key base.dimensions.suppliers
  pub parts : IsDimension base.limits part_key base.dimensions.parts
  pub dates : IsDimension base.limits date_key base.dimensions.dates
  pub few : length base.lines ≤ base.limits.lines
  pub numbered : AreDistinct is_same_line base.lines
  pub known : All (IsKnown base.dimensions) base.lines

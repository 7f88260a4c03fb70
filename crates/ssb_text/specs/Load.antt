-- What five texts spell together, and the first fault of a load.
use Rattle.std.specs.Prelude.{◌≡◌, ℕ, ◌+◌, ◌⊎◌, List, [], ◌∷◌, map, Option, Some, None}
use Rattle.ssb_base.specs.Base.{Tables as BaseTables, base_fault}
use Rattle.ssb_schema.specs.Columns.{Value}
use Rattle.ssb_schema.specs.Rows.{customer_values, supplier_values, part_values, date_values, line_values}
use Rattle.ssb_schema.specs.declared.fault.SchemaFault.{SchemaFault}
use Rattle.ssb_schema.specs.declared.fault.SchemaFault.TheVariants as fault
use Rattle.ssb_base.specs.declared.limits.Limits.{Limits}
use Rattle.ssb_schema.specs.declared.table.Table.{Table}
use Rattle.ssb_schema.specs.declared.table.Table.TheVariants as table
use Rattle.ssb_text.specs.Tables.{IsFirstFault, IsReadFault, SpellsRows}
use Rattle.ssb_text.specs.declared.error.LoadError.{LoadError}
use Rattle.ssb_text.specs.declared.error.LoadError.TheVariants as errors
use Rattle.ssb_text.specs.declared.loading.Tables.{Tables}

-- the order in which the tables are read
abbrev pub all_tables : List Table
all_tables = table.Customer ∷ table.Supplier ∷ table.Part ∷ table.Date ∷ table.Lineorder ∷ []

-- the reader of a table
abbrev pub reader_of : {R : Type 0} → Tables R → Table → R
reader_of tables table.Customer = tables.customer
reader_of tables table.Supplier = tables.supplier
reader_of tables table.Part = tables.part
reader_of tables table.Date = tables.date
reader_of tables table.Lineorder = tables.lineorder

-- these are the bytes of the five readers, table by table
abbrev pub AreTexts : {R : Type 0} → (R → Option (List ℕ)) → Tables R → (Table → List ℕ) → Type 0
AreTexts remaining tables texts = (t : Table) → remaining (reader_of tables t) ≡ Some (texts t)

-- how many rows a table may have
abbrev pub limit_of : Limits → Table → ℕ
limit_of limits table.Customer = limits.dimension_rows
limit_of limits table.Supplier = limits.dimension_rows
limit_of limits table.Part = limits.dimension_rows
limit_of limits table.Date = limits.dimension_rows
limit_of limits table.Lineorder = limits.lines

-- the values of a table's rows in a base, column by column
abbrev pub values_in : BaseTables → Table → List (List Value)
values_in base table.Customer = map customer_values base.dimensions.customers
values_in base table.Supplier = map supplier_values base.dimensions.suppliers
values_in base table.Part = map part_values base.dimensions.parts
values_in base table.Date = map date_values base.dimensions.dates
values_in base table.Lineorder = map line_values base.lines

-- the texts spell the rows of a base: each text those of its table
abbrev pub SpellsBase : (Table → List ℕ) → BaseTables → Type 0
SpellsBase texts base = (t : Table) → SpellsRows t (limit_of base.limits t) (texts t) (values_in base t)

-- the reading of a table stops: its reader fails or memory runs out, or its text has this first fault
abbrev pub StopsAt : Limits → (Table → List ℕ) → Table → LoadError → Type 0
StopsAt limits texts t e = IsReadFault t e ⊎ IsFirstFault t (limit_of limits t) (texts t) e

-- the text of a table spells all its rows
abbrev pub IsWhole : Limits → (Table → List ℕ) → Table → Type 0
IsWhole limits texts t = (rows : List (List Value)) × SpellsRows t (limit_of limits t) (texts t) rows

-- the reading of tables, one after the other, stops: at the first, or after it is read whole at a later one
abbrev pub StopsIn : Limits → (Table → List ℕ) → List Table → LoadError → Type 0
StopsIn limits texts [] e = ⊥
StopsIn limits texts (t ∷ later) e = StopsAt limits texts t e ⊎ (IsWhole limits texts t × StopsIn limits texts later e)

-- the fault of a base, told with the table and the row that it is about; the other faults are of no base
abbrev pub in_base : Limits → SchemaFault → Option LoadError
in_base limits (fault.KeyRepeated t row) = Some (errors.Row t row (fault.KeyRepeated t row))
in_base limits (fault.UnknownKey row t) = Some (errors.Row table.Lineorder row (fault.UnknownKey row t))
in_base limits (fault.TooManyRows t) = Some (errors.Row t (limit_of limits t + 1) (fault.TooManyRows t))
in_base limits fault.NoLines = None
in_base limits fault.TooManyLines = None
in_base limits fault.KeysDiffer = None
in_base limits (fault.LineRepeated n) = None
in_base limits fault.NoActions = None
in_base limits fault.TooManyActions = None
in_base limits (fault.OutOfRange column) = None
in_base limits (fault.FieldTooLong column) = None

-- all texts spell rows, and together these are no base
pub record IsBaseFault (limits : Limits) (texts : Table → List ℕ) (e : LoadError) : Type 0 where
  pub base : BaseTables
  pub limited : base.limits ≡ limits
  pub spelled : SpellsBase texts base
  pub why : SchemaFault
  pub first : base_fault base ≡ Some why
  pub told : in_base limits why ≡ Some e

-- the first fault of a load, or the failed read or want of memory that stopped it
abbrev pub IsLoadFault : Limits → (Table → List ℕ) → LoadError → Type 0
IsLoadFault limits texts e = StopsIn limits texts all_tables e ⊎ IsBaseFault limits texts e ⊎ (e ≡ errors.OutOfMemory)

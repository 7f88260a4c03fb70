-- How a fault of rows is told where a line of heads stands above them, which is row 1.
use Rattle.std.specs.Prelude.{ℕ, ◌+◌, ◌-◌, ◌^◌, min, Bool, true, false}
use Rattle.ssb_schema.specs.declared.fault.SchemaFault.{SchemaFault}
use Rattle.ssb_schema.specs.declared.fault.SchemaFault.TheVariants as schema
use Rattle.ssb_text.specs.declared.error.LoadError.{LoadError}
use Rattle.ssb_text.specs.declared.error.LoadError.TheVariants as load

-- the number of a row, with the line of heads: a number of 64 bits
abbrev pub below : ℕ → ℕ
below row = min (row + 1) (2 ^ 64 - 1)

abbrev pub refused_below : SchemaFault → SchemaFault
refused_below (schema.KeyRepeated table row) = schema.KeyRepeated table (below row)
refused_below (schema.UnknownKey row table) = schema.UnknownKey (below row) table
refused_below other = other

abbrev pub fault_below : LoadError → LoadError
fault_below (load.FieldCount table row) = load.FieldCount table (below row)
fault_below (load.NotUtf8 table row column) = load.NotUtf8 table (below row) column
fault_below (load.NotANumber table row column) = load.NotANumber table (below row) column
fault_below (load.Row table row why) = load.Row table (below row) (refused_below why)
fault_below other = other

abbrev pub told : Bool → LoadError → LoadError
told true fault = fault_below fault
told false fault = fault

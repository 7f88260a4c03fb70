-- The lines that a text spells, up to its first fault.
use Rattle.std.specs.Prelude.{ℕ, List, [], ◌∷◌, ◌++◌, Option, Some, None}
use Rattle.std.specs.List.{AllZip}
use Rattle.ssb_schema.specs.Columns.{Value}
use Rattle.ssb_schema.specs.declared.table.Table.TheVariants as table
use Rattle.ssb_text.specs.Records.{BeginsWith, HasRecords}
use Rattle.ssb_text.specs.Row.{Fails, row_of}
use Rattle.ssb_text.specs.Tables.{SpellsRow}
use Rattle.ssb_text.specs.declared.error.LineFault.{LineFault}

-- the records of a text spell lines of these values
pub record SpellsAll (text : List ℕ) (rows : List (List Value)) : Type 0 where
  pub records : List (List (List ℕ))
  pub all : HasRecords text records
  pub spelled : AllZip (SpellsRow table.Lineorder) records rows

-- the first records of a text spell lines of these values, and the next one has this fault, or memory ran out at it
pub record StopsAt (text : List ℕ) (rows : List (List Value)) (why : LineFault) : Type 0 where
  pub records : List (List (List ℕ))
  pub fields : List (List ℕ)
  pub begins : BeginsWith text (records ++ fields ∷ [])
  pub spelled : AllZip (SpellsRow table.Lineorder) records rows
  pub fails : Fails why (row_of table.Lineorder fields)

-- a text spells lines of these values: all of its records, or those before its first fault
abbrev pub SpellsUntil : List ℕ → List (List Value) → Option LineFault → Type 0
SpellsUntil text rows None = SpellsAll text rows
SpellsUntil text rows (Some why) = StopsAt text rows why

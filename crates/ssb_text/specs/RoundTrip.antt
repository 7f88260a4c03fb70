-- The texts of tables and their reading.
use Rattle.std.specs.Prelude.{◌≡◌, ℕ, ◌≤◌, List, length, None, IsUtf8}
use Rattle.std.specs.List.{AllByRecursion}
use Rattle.ssb_base.specs.Base.{Tables, IsSound}
use Rattle.ssb_schema.specs.Columns.{Value, Number, Text, row_fault}
use Rattle.ssb_schema.specs.declared.table.Table.{Table}
use Rattle.ssb_text.specs.Load.{IsLoadFault, SpellsBase, limit_of, values_in}
use Rattle.ssb_text.specs.Tables.{IsReadFault}
use Rattle.ssb_text.specs.declared.error.LoadError.{LoadError}
use Rattle.ssb_text.specs.TableText.{base_texts}

-- a text of a row is UTF-8
abbrev pub IsColumnText : Value → Type 0
IsColumnText (Number n) = Unit {0}
IsColumnText (Text bytes) = IsUtf8 bytes

-- the values of a row that a table may have: the schema takes them
pub record IsTableRow (t : Table) (values : List Value) : Type 0 where
  pub taken : row_fault t values ≡ None
  pub texts : AllByRecursion IsColumnText values

-- the rows of a base are such, and each table has no more than the limits allow
pub record AreTableRows (base : Tables) (t : Table) : Type 0 where
  pub rows : AllByRecursion (IsTableRow t) (values_in base t)
  pub few : length (values_in base t) ≤ limit_of base.limits t

-- the texts of a base spell it
abbrev pub TextsSpellTheirBase : Type 0
TextsSpellTheirBase = (base : Tables) → ((t : Table) → AreTableRows base t) → SpellsBase (base_texts base) base

-- texts spell the rows of one base only, whatever the limits
abbrev pub TextsSpellOneBase : Type 0
TextsSpellOneBase =
    (texts : Table → List ℕ) (one other : Tables) → SpellsBase texts one → SpellsBase texts other
    → (one.dimensions ≡ other.dimensions) × (one.lines ≡ other.lines)

-- texts that spell sound tables are not refused: their load stops only where a reader fails, or memory runs out
abbrev pub NothingIsRefused : Type 0
NothingIsRefused =
    (texts : Table → List ℕ) (base : Tables) (e : LoadError) → SpellsBase texts base → IsSound base
    → IsLoadFault base.limits texts e → (t : Table) × IsReadFault t e

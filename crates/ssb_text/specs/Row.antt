-- What a record of a table's file spells: the values of a row, or the first reason why it spells none.
use Rattle.std.specs.Prelude.{◌≡◌, ℕ, ◌+◌, List, [], ◌∷◌, length, get_or, Option, Some, None, Result, Ok, Err}
use Rattle.std.specs.Prelude.{if◌then◌else◌}
use Rattle.ssb_schema.specs.Columns.{Value, Number, Text, kinds_of, row_fault}
use Rattle.ssb_schema.specs.declared.table.Table.{Table}
use Rattle.ssb_schema.specs.declared.column.Column.{Column}
use Rattle.ssb_schema.specs.declared.kind.Kind.{Kind}
use Rattle.ssb_schema.specs.declared.kind.Kind.TheVariants as kind
use Rattle.ssb_schema.specs.declared.fault.SchemaFault.{SchemaFault}
use Rattle.ssb_text.specs.declared.error.LineFault.{LineFault}
use Rattle.ssb_text.specs.declared.error.LineFault.TheVariants as fault
use Rattle.ssb_text.specs.Records.{has_columns}
use Rattle.ssb_schema.specs.Numerals.{number_of}
use Rattle.ssb_text.specs.Spelling.{text_of, without_spaces}

infixl 10 ◌>>=◌
abbrev pub ◌>>=◌ : {A B : Type 0} → Result A LineFault → (A → Result B LineFault) → Result B LineFault
(Ok x) >>= f = f x
(Err e) >>= f = Err e

-- what is spelled, or a fault where nothing is
abbrev pub spelled_or : {A : Type 0} → LineFault → Option A → Result A LineFault
spelled_or e None = Err e
spelled_or e (Some x) = Ok x

-- the number, or the text, that a field spells in a column
unfoldable pub number_at : Column → List ℕ → Result ℕ LineFault
number_at column field = spelled_or (fault.NotANumber column) (number_of (without_spaces field))

unfoldable pub text_at : Column → List ℕ → Result (List ℕ) LineFault
text_at column field = spelled_or (fault.NotUtf8 column) (text_of (without_spaces field))

-- the value that a field spells in a column of this kind
abbrev pub value_at : Column → Kind → List ℕ → Result Value LineFault
value_at column (kind.Number least most) field = do
  n ← number_at column field
  Ok (Number n)
value_at column kind.Text field = do
  t ← text_at column field
  Ok (Text t)

-- the values that the fields from a place on, counted from 0, spell in columns of these kinds
unfoldable pub values_from : Table → ℕ → List Kind → List (List ℕ) → Result (List Value) LineFault
values_from t place [] fields = Ok []
values_from t place (k ∷ kinds) fields = do
  value ← value_at (record { table = t; place = place + 1 }) k (get_or fields place [])
  values ← values_from t (place + 1) kinds fields
  Ok (value ∷ values)

-- values that the schema does not refuse
abbrev pub unless_refused : Option SchemaFault → List Value → Result (List Value) LineFault
unless_refused None values = Ok values
unless_refused (Some why) values = Err (fault.Refused why)

-- the values of the row that a record spells, or its first fault
unfoldable pub row_of : Table → List (List ℕ) → Result (List Value) LineFault
row_of t fields =
    if has_columns (length (kinds_of t)) fields then (values_from t 0 (kinds_of t) fields >>= λ values. unless_refused
    (row_fault t values) values)
    else Err fault.FieldCount

-- what a call returned, seen by `view`, is what is spelled, unless memory ran out
abbrev pub Fails : {Y : Type 0} → LineFault → Result Y LineFault → Type 0
Fails fault.OutOfMemory spelled = Unit {0}
Fails fault.FieldCount spelled = spelled ≡ Err fault.FieldCount
Fails (fault.NotUtf8 column) spelled = spelled ≡ Err (fault.NotUtf8 column)
Fails (fault.NotANumber column) spelled = spelled ≡ Err (fault.NotANumber column)
Fails (fault.Refused why) spelled = spelled ≡ Err (fault.Refused why)

abbrev pub Gives : {X Y : Type 0} → (X → Y) → Result X LineFault → Result Y LineFault → Type 0
Gives view (Ok x) spelled = spelled ≡ Ok (view x)
Gives view (Err e) spelled = Fails e spelled

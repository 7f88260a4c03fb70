-- The columns of a row that the schema takes are read back.
use Rattle.std.proofs.Common.{ltb-true, ltb-false, ◌&&◌, ◌≡◌, ℕ, ◌+◌, ◌^◌, ◌<◌, ◌≤◌, Bool, true, false, ◌||◌, nat_lt}
use Rattle.std.proofs.Common.{List, [], ◌∷◌, ◌++◌, length, map, get_or, Option, Some, None, Ok, refl, ap, ◌∙◌}
use Rattle.std.proofs.Common.{append_assoc, length-append, arith}
use Rattle.std.specs.List.{AllByRecursion, AllZip}
use Rattle.std.specs.Str.{IsUtf8}
use Rattle.std.proofs.Math.Seq.{get_or-append_seam}
use Rattle.std.proofs.lemmas.Bool.{cases_Bool}
use Rattle.std.proofs.lemmas.Option.{none-some}
use Rattle.ssb_text.specs.Row.{number_at, text_at, value_at, values_from}
use Rattle.ssb_schema.specs.Columns.{Value, Number, Text, column_fault, first_fault, is_plain, kinds_of, or_else}
use Rattle.ssb_schema.specs.Rows.{customer_values, date_values, line_values, part_values, supplier_values}
use Rattle.ssb_schema.specs.declared.column.Column.{Column}
use Rattle.ssb_schema.specs.declared.customer.CustomerFields.{CustomerFields}
use Rattle.ssb_schema.specs.declared.supplier.SupplierFields.{SupplierFields}
use Rattle.ssb_schema.specs.declared.part.PartFields.{PartFields}
use Rattle.ssb_schema.specs.declared.date.DateFields.{DateFields}
use Rattle.ssb_schema.specs.declared.fault.SchemaFault.{SchemaFault}
use Rattle.ssb_schema.specs.declared.kind.Kind.{Kind}
use Rattle.ssb_schema.specs.declared.kind.Kind.TheVariants as kind
use Rattle.ssb_schema.specs.declared.line.LineFields.{LineFields}
use Rattle.ssb_schema.specs.declared.table.Table.{Table}
use Rattle.ssb_schema.specs.declared.table.Table.TheVariants as table
use Rattle.ssb_text.specs.TableText.{column_text}
use Rattle.ssb_text.specs.RoundTrip.{IsColumnText, IsTableRow}
use Rattle.ssb_text.proofs.FieldTextLaws.{text_kept, text_read}
use Rattle.ssb_text.proofs.NumberTextLaws.{number_kept, number_read}
use Rattle.ssb_text.proofs.RecordTextLaws.{IsPlainField, and-left, and-right}

-- a value that is read back in a column of this kind
abbrev pub IsColumn : Kind → Value → Type 0
IsColumn (kind.Number least most) (Number n) = (n ≤ most) × (n < 2 ^ 64)
IsColumn kind.Text (Text bytes) = (is_plain bytes ≡ true) × IsUtf8 bytes
IsColumn (kind.Number least most) (Text bytes) = ⊥
IsColumn kind.Text (Number n) = ⊥

value-read : (column : Column) (k : Kind) (v : Value) → IsColumn k v → value_at column k (column_text v) ≡ Ok v
unfolding number_at text_at
value-read column (kind.Number least most) (Number n) fits = rw ((number_kept n fits.1).kept, number_read n fits.1) refl
value-read column kind.Text (Text bytes) fits = rw ((text_kept bytes fits.0).kept, text_read bytes fits.1) refl
value-read column (kind.Number least most) (Text bytes) fits = absurd fits
value-read column kind.Text (Number n) fits = absurd fits

pub values_read : (t : Table) (front : List (List ℕ)) (kinds : List Kind) (values : List Value)
    → AllZip IsColumn kinds values
    → values_from t (length front) kinds (front ++ map column_text values) ≡ Ok values
unfolding values_from
values_read t front [] [] fit = grind arith
values_read t front [] (v ∷ values) fit = grind arith
values_read t front (k ∷ kinds) [] fit = grind arith
values_read t front (k ∷ kinds) (v ∷ values) fit = grind (arith, get_or-append_seam, length-append, append_assoc, value-read, values_read t (front ++ column_text v ∷ []) kinds values fit.1)

-- what the schema takes is read back
matches : Kind → Value → Bool
matches (kind.Number least most) (Number n) = nat_lt most (2 ^ 64)
matches kind.Text (Text bytes) = true
matches (kind.Number least most) (Text bytes) = false
matches kind.Text (Number n) = false

all_match : List Kind → List Value → Bool
unfolding matches
all_match [] [] = true
all_match [] (v ∷ values) = false
all_match (k ∷ kinds) [] = false
all_match (k ∷ kinds) (v ∷ values) = matches k v && all_match kinds values

or-right : (a b : Bool) → (a || b) ≡ false → b ≡ false
or-right false b e = e
or-right true b e = absurd cc

number-fits : (column : Column) (least most n : ℕ) → column_fault column (kind.Number least most) (Number n) ≡ None
    → n ≤ most
number-fits column least most n none = grind (arith, cases_Bool, nat_lt, none-some, ltb-false, or-right)

text-fits : (column : Column) (bytes : List ℕ) → column_fault column kind.Text (Text bytes) ≡ None
    → is_plain bytes ≡ true
text-fits column bytes none = grind (arith, cases_Bool, nat_lt, none-some)

false-true : false ≡ true → ⊥
false-true e = cc

column-fits : (column : Column) (k : Kind) (v : Value) → matches k v ≡ true → IsColumnText v
    → column_fault column k v ≡ None → IsColumn k v
unfolding matches
column-fits column (kind.Number least most) (Number n) match text none = grind (arith, number-fits, ltb-true)
column-fits column kind.Text (Text bytes) match text none = grind (arith, text-fits)
column-fits column (kind.Number least most) (Text bytes) match text none = grind (arith, false-true)
column-fits column kind.Text (Number n) match text none = grind (arith, false-true)

no-first : (f other : Option SchemaFault) → or_else f other ≡ None → f ≡ None
no-first None other e = refl
no-first (Some f) other e = absurd cc

no-other : (f other : Option SchemaFault) → or_else f other ≡ None → other ≡ None
no-other None other e = e
no-other (Some f) other e = absurd cc

columns-fit : (t : Table) (place : ℕ) (kinds : List Kind) (values : List Value) → all_match kinds values ≡ true
    → AllByRecursion IsColumnText values
    → first_fault t place kinds values ≡ None → AllZip IsColumn kinds values
unfolding first_fault all_match
columns-fit t place [] [] match texts none = tt
columns-fit t place [] (v ∷ values) match texts none = absurd (false-true match)
columns-fit t place (k ∷ kinds) [] match texts none = absurd (false-true match)
columns-fit t place (k ∷ kinds) (v ∷ values) match texts none =
    let column : Column = record { table = t; place = place } in (
      column-fits column k v (and-left (matches k v) (all_match kinds values) match) texts.0
          (no-first (column_fault column k v) (first_fault t (place + 1) kinds values) none),
      columns-fit t (place + 1) kinds values (and-right (matches k v) (all_match kinds values) match) texts.1
          (no-other (column_fault column k v) (first_fault t (place + 1) kinds values) none),
    )

row-fits : (t : Table) (values : List Value) → all_match (kinds_of t) values ≡ true → IsTableRow t values
    → AllZip IsColumn (kinds_of t) values
row-fits t values match taken = columns-fit t 1 (kinds_of t) values match taken.texts taken.taken

-- the columns of each table
pub customer_fits : (row : CustomerFields) → IsTableRow table.Customer (customer_values row)
    → AllZip IsColumn (kinds_of table.Customer) (customer_values row)
unfolding all_match matches
customer_fits row taken = row-fits table.Customer (customer_values row) refl taken

pub supplier_fits : (row : SupplierFields) → IsTableRow table.Supplier (supplier_values row)
    → AllZip IsColumn (kinds_of table.Supplier) (supplier_values row)
unfolding all_match matches
supplier_fits row taken = row-fits table.Supplier (supplier_values row) refl taken

pub part_fits : (row : PartFields) → IsTableRow table.Part (part_values row)
    → AllZip IsColumn (kinds_of table.Part) (part_values row)
unfolding all_match matches
part_fits row taken = row-fits table.Part (part_values row) refl taken

pub date_fits : (row : DateFields) → IsTableRow table.Date (date_values row)
    → AllZip IsColumn (kinds_of table.Date) (date_values row)
unfolding all_match matches
date_fits row taken = row-fits table.Date (date_values row) refl taken

pub line_fits : (line : LineFields) → IsTableRow table.Lineorder (line_values line)
    → AllZip IsColumn (kinds_of table.Lineorder) (line_values line)
unfolding all_match matches
line_fits line taken = row-fits table.Lineorder (line_values line) refl taken

-- and their texts are plain
value-plain : (k : Kind) (v : Value) → IsColumn k v → IsPlainField (column_text v)
value-plain (kind.Number least most) (Number n) fits = (number_kept n fits.1).plain
value-plain kind.Text (Text bytes) fits = (text_kept bytes fits.0).plain
value-plain (kind.Number least most) (Text bytes) fits = absurd fits
value-plain kind.Text (Number n) fits = absurd fits

pub values_plain : (kinds : List Kind) (values : List Value) → AllZip IsColumn kinds values
    → AllByRecursion IsPlainField (map column_text values)
values_plain [] [] fit = tt
values_plain [] (v ∷ values) fit = absurd fit
values_plain (k ∷ kinds) [] fit = absurd fit
values_plain (k ∷ kinds) (v ∷ values) fit = (value-plain k v fit.0, values_plain kinds values fit.1)

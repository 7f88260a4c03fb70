-- A row that a table may have is read back from its text.
use Rattle.std.proofs.Common.{◌≡◌, ℕ, suc, ◌+◌, ◌<◌, true, false, List, [], ◌∷◌, ◌++◌, length, map, None, Ok, decimal}
use Rattle.std.proofs.Common.{refl, ap, ◌∙◌, append_assoc, arith}
use Rattle.std.specs.Prelude.{◌==◌}
use Rattle.std.specs.Char.{is_ascii_digit}
use Rattle.std.specs.List.{AllByRecursion, AllZip, join_with_byte, list_all}
use Rattle.std.proofs.lemmas.Bool.Decides.{nat_tests}
use Rattle.std.proofs.lemmas.Fmt.{decimal_nonempty}
use Rattle.ssb_text.specs.Numbers.{line_feed}
use Rattle.ssb_schema.specs.Columns.{Value, Number, Text, kinds_of, row_fault}
use Rattle.ssb_schema.specs.Rows.{line_values}
use Rattle.ssb_schema.specs.declared.kind.Kind.{Kind}
use Rattle.ssb_schema.specs.declared.kind.Kind.TheVariants as kind
use Rattle.ssb_schema.specs.declared.line.LineFields.{LineFields}
use Rattle.ssb_schema.specs.declared.table.Table.{Table}
use Rattle.ssb_schema.specs.declared.table.Table.TheVariants as table
use Rattle.ssb_text.specs.Records.{has_columns}
use Rattle.ssb_text.specs.Row.{row_of, values_from}
use Rattle.ssb_text.specs.TableText.{column_text, fields_text, row_text}
use Rattle.ssb_text.specs.RoundTrip.{IsTableRow}
use Rattle.ssb_text.proofs.ColumnTextLaws.{IsColumn, line_fits, values_plain, values_read}
use Rattle.ssb_text.proofs.NumberTextLaws.{all_digits}
use Rattle.ssb_text.proofs.RecordTextLaws.{IsPlainField, IsReadable, and-left, text_of_record}

-- fields parted by bars, and the end of the line, are a record of these fields
pub joined : (field : List ℕ) (fields : List (List ℕ))
    → join_with_byte 124 (field ∷ fields) ++ line_feed ≡ field ++ fields_text fields
joined field [] = grind arith
joined field (next ∷ fields) = grind (arith, append_assoc, joined next fields)

pub row_record : (value : Value) (values : List Value)
    → row_text (value ∷ values) ≡ text_of_record (map column_text (value ∷ values))
row_record value values = joined (column_text value) (map column_text values)

-- a row whose columns are read back
pub record IsFitRow (t : Table) (values : List Value) : Type 0 where
  pub taken : row_fault t values ≡ None
  pub columns : AllZip IsColumn (kinds_of t) values

-- it has as many fields as the table has columns
as-many : (kinds : List Kind) (values : List Value) → AllZip IsColumn kinds values
    → length (map column_text values) ≡ length kinds
as-many [] [] fit = refl
as-many [] (v ∷ values) fit = absurd fit
as-many (k ∷ kinds) [] fit = absurd fit
as-many (k ∷ kinds) (v ∷ values) fit = ap suc (as-many kinds values fit.1)

has-columns : (count : ℕ) (fields : List (List ℕ)) → length fields ≡ count → has_columns count fields ≡ true
has-columns count fields same = grind (arith, nat_tests)

pub row_read : (t : Table) (values : List Value) → IsFitRow t values → row_of t (map column_text values) ≡ Ok values
unfolding row_of
row_read t values fit =
    let whole : has_columns (length (kinds_of t)) (map column_text values) ≡ true =
    has-columns (length (kinds_of t)) (map column_text values) (as-many (kinds_of t) values fit.columns) in
    let read : values_from t 0 (kinds_of t) (map column_text values) ≡ Ok values =
    values_read t [] (kinds_of t) values fit.columns in
    rw (whole, read, fit.taken) refl

-- the values of a line, and their texts
pub line_read : (line : LineFields) → IsTableRow table.Lineorder (line_values line)
    → row_of table.Lineorder (map column_text (line_values line)) ≡ Ok (line_values line)
line_read line row =
    row_read table.Lineorder (line_values line) (record { taken = row.taken; columns = line_fits line row })

pub line_plain : (line : LineFields) → IsTableRow table.Lineorder (line_values line)
    → AllByRecursion IsPlainField (map column_text (line_values line))
line_plain line row = values_plain (kinds_of table.Lineorder) (line_values line) (line_fits line row)

-- a record that begins with a number is readable
digit-no-mark : (c : ℕ) → is_ascii_digit c ≡ true → (c == 239) ≡ false
digit-no-mark c digit = grind (arith, nat_tests)

digits-first : (digits : List ℕ) (fields : List (List ℕ)) → 0 < length digits → list_all is_ascii_digit digits ≡ true
    → AllByRecursion IsPlainField (digits ∷ fields) → IsReadable (digits ∷ fields)
digits-first [] fields some all plain = absurd (omega (arith, some))
digits-first (c ∷ digits) fields some all plain =
    (digit-no-mark c (and-left (is_ascii_digit c) (list_all is_ascii_digit digits) all), plain.0, plain.1)

-- a table's first column is a key
abbrev BeginsWithNumber : List Kind → Type 0
BeginsWithNumber [] = ⊥
BeginsWithNumber (kind.Number least most ∷ kinds) = Unit {0}
BeginsWithNumber (kind.Text ∷ kinds) = ⊥

begins-with-key : (t : Table) → BeginsWithNumber (kinds_of t)
begins-with-key table.Customer = tt
begins-with-key table.Supplier = tt
begins-with-key table.Part = tt
begins-with-key table.Date = tt
begins-with-key table.Lineorder = tt

fit-readable : (kinds : List Kind) (values : List Value) → BeginsWithNumber kinds → AllZip IsColumn kinds values
    → IsReadable (map column_text values)
fit-readable [] values begins fit = absurd begins
fit-readable (kind.Text ∷ kinds) values begins fit = absurd begins
fit-readable (kind.Number least most ∷ kinds) [] begins fit = absurd fit
fit-readable (kind.Number least most ∷ kinds) (Text bytes ∷ values) begins fit = absurd fit.0
fit-readable (kind.Number least most ∷ kinds) (Number n ∷ values) begins fit =
    digits-first (decimal n) (map column_text values) (decimal_nonempty n fit.0.1) (all_digits n fit.0.1)
    (values_plain (kind.Number least most ∷ kinds) (Number n ∷ values) fit)

pub row_readable : (t : Table) (values : List Value) → IsFitRow t values → IsReadable (map column_text values)
row_readable t values fit = fit-readable (kinds_of t) values (begins-with-key t) fit.columns

-- and its text is that of a record
as-record : (values : List Value) → IsReadable (map column_text values)
    → row_text values ≡ text_of_record (map column_text values)
as-record [] readable = absurd readable
as-record (value ∷ values) readable = row_record value values

pub row_is_record : (t : Table) (values : List Value) → IsFitRow t values
    → row_text values ≡ text_of_record (map column_text values)
row_is_record t values fit = as-record values (row_readable t values fit)

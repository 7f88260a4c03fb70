-- A record of CSV in parts.
use Rattle.std.proofs.Common.{◌≡◌, ◌∙◌, ◌==◌, ℕ, ◌<◌, ◌^◌, true, false, List, [], ◌∷◌, ◌++◌, map, flat_map}
use Rattle.std.proofs.Common.{refl, sym, ap, arith, append_assoc, append-nil, decimal, if◌then◌else◌}
use Rattle.std.proofs.lemmas.Bool.{ne_eqb}
use Rattle.std.proofs.lemmas.Fmt.{decimal_is_IsNumeral}
use Rattle.std.proofs.lemmas.Str.Parse.{digit_at}
use Rattle.std.specs.Int.{IsInRange}
use Rattle.std.specs.Str.Parse.{AllDigits}
use Rattle.csv.proofs.WriteFacts.{escaped-append}
use Rattle.csv.specs.Writing.{default_writer, escaped, field_text, fields_text, is_blank, needs_byte, needs_quotes, quoted}
use Rattle.csv.specs.Writing.{row_text as csv_record}
use Rattle.ssb_schema.specs.Columns.{value_of}
use Rattle.ssb_schema.specs.Rows.{line_values}
use Rattle.ssb_schema.specs.declared.kind.Cell.{Cell}
use Rattle.ssb_schema.specs.declared.line.LineFields.{LineFields}
use Rattle.ssb_text.specs.TableText.{cell_text, column_text}
use Rattle.changes_command.specs.CsvText.{after_comma, sign_field}
use Rattle.changes_command.specs.SignedText.{sign_text, signed_text}
use Rattle.changes_command.specs.declared.format.ChangesFormat.TheVariants.{Csv}
use Rattle.changes_command.specs.declared.signed.Sign.{Sign}
use Rattle.changes_command.specs.declared.signed.Sign.TheVariants.{Came, Went}

-- the fields of a record behind its first
fields_parted : (fields : List (List ℕ)) → fields_text default_writer fields ≡ flat_map after_comma fields
unfolding fields_text
fields_parted [] = refl
fields_parted (field ∷ fields) = ap (λ text. after_comma field ++ text) (fields_parted fields)

none_escaped : [] ≡ escaped default_writer []
unfolding escaped
none_escaped = refl

-- the bytes between quotes, one by one
pub bytes_escaped : (bytes : List ℕ)
    → flat_map (λ byte. escaped default_writer (byte ∷ [])) bytes ≡ escaped default_writer bytes
bytes_escaped [] = none_escaped
bytes_escaped (byte ∷ bytes) =
    ap (λ text. escaped default_writer (byte ∷ []) ++ text) (bytes_escaped bytes)
    ∙ sym (escaped-append default_writer (byte ∷ []) bytes)

-- a text that calls for quotes, and one that does not
pub quoted_field : (text : List ℕ) → needs_quotes default_writer text ≡ true
    → after_comma text ≡ 44 ∷ quoted default_writer text
quoted_field text calls = ap (λ b. 44 ∷ (if b then quoted default_writer text else text)) calls

pub bare_field : (text : List ℕ) → needs_quotes default_writer text ≡ false → after_comma text ≡ 44 ∷ text
bare_field text calls = ap (λ b. 44 ∷ (if b then quoted default_writer text else text)) calls

-- no digit calls for quotes
bare_digit : (c : ℕ) → IsInRange 48 57 c → needs_byte default_writer c ≡ false
bare_digit c within =
    let comma : (c == 44) ≡ false = ne_eqb c 44 (λ is. omega (arith, is, within.0)) in
    let quote : (c == 34) ≡ false = ne_eqb c 34 (λ is. omega (arith, is, within.0)) in
    let carriage : (c == 13) ≡ false = ne_eqb c 13 (λ is. omega (arith, is, within.0)) in
    let feed : (c == 10) ≡ false = ne_eqb c 10 (λ is. omega (arith, is, within.0)) in
    rw (comma, quote, carriage, feed) refl

bare_digits : (digits : List ℕ) → AllDigits 10 digits → needs_quotes default_writer digits ≡ false
bare_digits [] all = refl
bare_digits (c ∷ digits) all =
    rw (bare_digit c (digit_at (c ∷ digits) 0 all (omega arith)), bare_digits digits all.1) refl

-- nor does a number
pub bare_number : (n : ℕ) → n < 2 ^ 64 → needs_quotes default_writer (decimal n) ≡ false
bare_number n fits = bare_digits (decimal n) ((decimal_is_IsNumeral n fits).0.1)

-- nor a sign
bare_sign : (sign : Sign) → after_comma (sign_text sign) ≡ sign_field sign
bare_sign Came = refl
bare_sign Went = refl

-- the fields of cells
pub cells_parted : (cells : List Cell) → flat_map (λ cell. after_comma (cell_text cell)) cells
    ≡ flat_map after_comma (map column_text (map value_of cells))
cells_parted [] = refl
cells_parted (cell ∷ cells) = ap (λ text. after_comma (cell_text cell) ++ text) (cells_parted cells)

-- a record of two fields or more
record_parted : (one two : List ℕ) (others : List (List ℕ)) → csv_record default_writer (one ∷ two ∷ others)
    ≡ (field_text default_writer one ++ fields_text default_writer (two ∷ others)) ++ 10 ∷ []
unfolding is_blank
record_parted one two others = refl

regrouped : (a b c d : List ℕ) → (a ++ (b ++ c)) ++ d ≡ (a ++ (b ++ [])) ++ (c ++ d)
regrouped a b c d =
    append_assoc a (b ++ c) d
    ∙ ap (λ t. a ++ t) (append_assoc b c d ∙ ap (λ t. t ++ (c ++ d)) (sym (append-nil b)))
    ∙ sym (append_assoc a (b ++ []) (c ++ d))

-- a signed line: the commit and the sign, its other fields, and the end of the record
pub csv_in_parts : (commit : ℕ) (sign : Sign) (line : LineFields) → commit < 2 ^ 64
    → signed_text Csv commit sign line ≡ (decimal commit ++ (sign_field sign ++ []))
    ++ (flat_map after_comma (map column_text (line_values line)) ++ 10 ∷ [])
csv_in_parts commit sign line fits =
    let number = decimal commit in
    let texts = map column_text (line_values line) in
    record_parted number (sign_text sign) texts
    ∙ ap (λ b. ((if b then quoted default_writer number else number)
    ++ fields_text default_writer (sign_text sign ∷ texts)) ++ 10 ∷ []) (bare_number commit fits)
    ∙ ap (λ t. (number ++ t) ++ 10 ∷ []) (fields_parted (sign_text sign ∷ texts)
    ∙ ap (λ t. t ++ flat_map after_comma texts) (bare_sign sign))
    ∙ regrouped number (sign_field sign) (flat_map after_comma texts) (10 ∷ [])

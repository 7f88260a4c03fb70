use Rattle.std.proofs.Common.{arith}
-- A record's text is read back, field by field, and so is the text of many records.
use Rattle.std.proofs.Common.{◌≡◌, ℕ, Bool, true, false, List, [], ◌∷◌, ◌++◌, ◌&&◌, Some, refl, ap, ◌∙◌, append_assoc}
use Rattle.std.specs.Prelude.{◌==◌, not}
use Rattle.std.specs.List.{list_all, AllByRecursion, flat_map}
use Rattle.std.proofs.lemmas.List.{append-nil}
use Rattle.csv.specs.Machine.{next_record}
use Rattle.csv.specs.Reading.{Reached, strip_bom}
use Rattle.csv.specs.declared.parser.State.TheVariants as st
use Rattle.ssb_text.specs.Records.{HasRecords, record_config}
use Rattle.ssb_schema.specs.Columns.{is_plain_byte}
use Rattle.ssb_text.specs.TableText.{fields_text, record_text}

-- the bytes of a field are plain
abbrev pub IsPlainField : List ℕ → Type 0
IsPlainField field = list_all is_plain_byte field ≡ true

pub and-left : (a b : Bool) → (a && b) ≡ true → a ≡ true
and-left true b e = refl
and-left false b e = absurd cc

pub and-right : (a b : Bool) → (a && b) ≡ true → b ≡ true
and-right true b e = e
and-right false b e = absurd cc

pub not-false : (b : Bool) → not b ≡ true → b ≡ false
not-false true e = absurd cc
not-false false e = refl

-- a plain byte is no mark of the format
pub plain-byte : (b : ℕ) → is_plain_byte b ≡ true → ((b == 124) ≡ false) × ((b == 13) ≡ false) × ((b == 10) ≡ false)
plain-byte b e = grind (arith, and-left, and-right, not-false)

-- the bytes of a field join it
pub field-run : (fields : List (List ℕ)) (field x tail : List ℕ) → IsPlainField x
    → next_record record_config st.InField fields field (x ++ tail) ≡ next_record record_config st.InField fields
    (field ++ x) tail
unfolding next_record
field-run fields field [] tail plain = grind (arith, append-nil)
field-run fields field (b ∷ rest) tail plain = grind (arith, plain-byte, and-left, and-right, append_assoc, field-run fields (field ++ (b ∷ [])) rest tail (and-right (is_plain_byte b) (list_all is_plain_byte rest) plain))

-- a byte does the same at the start of a field as in one
start-same : (fields : List (List ℕ)) (field : List ℕ) (c : ℕ) (tail : List ℕ)
    → next_record record_config st.StartField fields field (c ∷ tail) ≡ next_record record_config st.InField fields
    field (c ∷ tail)
unfolding next_record
start-same fields field c tail = refl

-- a bar ends the field
pub end-field : (fields : List (List ℕ)) (x u : List ℕ)
    → next_record record_config st.InField fields x (124 ∷ u) ≡ next_record record_config st.StartField
    (fields ++ (x ∷ [])) [] u
unfolding next_record
end-field fields x u = refl

-- a field with what comes after it starts as it goes on
start-fields : (fields : List (List ℕ)) (y : List ℕ) (ys : List (List ℕ)) (tail : List ℕ)
    → next_record record_config st.StartField fields [] (y ++ (fields_text ys ++ tail)) ≡ next_record record_config
    st.InField fields [] (y ++ (fields_text ys ++ tail))
start-fields fields [] [] tail = start-same fields [] _ _
start-fields fields [] (z ∷ zs) tail = start-same fields [] _ _
start-fields fields (b ∷ y) ys tail = start-same fields [] _ _

-- the rest of a record, after the bytes of a field
rest-run : (fields : List (List ℕ)) (x : List ℕ) (rest : List (List ℕ)) (tail : List ℕ)
    → AllByRecursion IsPlainField rest
    → next_record record_config st.InField fields x (fields_text rest ++ tail) ≡ Some
    (fields ++ (x ∷ rest), st.StartRecord, tail)
unfolding next_record
rest-run fields x [] tail plain = grind arith
rest-run fields x (y ∷ ys) tail plain = grind (arith, end-field, append_assoc, start-fields, field-run, rest-run (fields ++ (x ∷ [])) y ys tail plain.1)

-- the text of a record's fields, the first of which is its word
abbrev pub text_of_record : List (List ℕ) → List ℕ
text_of_record [] = []
text_of_record (word ∷ fields) = record_text word fields

-- fields that are read back: there is a word, with which no byte order mark begins, and all bytes are plain
abbrev pub IsReadable : List (List ℕ) → Type 0
IsReadable [] = ⊥
IsReadable ([] ∷ fields) = ⊥
IsReadable ((b ∷ word) ∷ fields) = ((b == 239) ≡ false) × IsPlainField (b ∷ word) × AllByRecursion IsPlainField fields

-- a plain byte begins a record as it goes on in one
start-record : (b : ℕ) (u : List ℕ) → is_plain_byte b ≡ true
    → next_record record_config st.StartRecord [] [] (b ∷ u) ≡ next_record record_config st.InField [] [] (b ∷ u)
unfolding next_record
start-record b u plain = grind (arith, plain-byte)

pub record_read : (fields : List (List ℕ)) (tail : List ℕ) → IsReadable fields
    → next_record record_config st.StartRecord [] [] (text_of_record fields ++ tail) ≡ Some
    (fields, st.StartRecord, tail)
record_read [] tail readable = absurd readable
record_read ([] ∷ fields) tail readable = absurd readable
record_read ((b ∷ word) ∷ fields) tail readable =
    start-record b ((word ++ fields_text fields) ++ tail)
    (and-left (is_plain_byte b) (list_all is_plain_byte word) readable.1)
    ∙ (ap (next_record record_config st.InField [] []) (append_assoc (b ∷ word) (fields_text fields) tail)
    ∙ (field-run [] [] (b ∷ word) (fields_text fields ++ tail) readable.1
    ∙ rest-run [] (b ∷ word) fields tail readable.2))

-- the text of records, one after another
abbrev pub text_of_records : List (List (List ℕ)) → List ℕ
text_of_records records = flat_map text_of_record records

records_reached : (records : List (List (List ℕ))) → AllByRecursion IsReadable records
    → Reached record_config st.StartRecord (text_of_records records) records st.StartRecord []
unfolding Reached
records_reached [] readable = (refl, refl)
records_reached (fields ∷ records) readable = (
  (fields, st.StartRecord, text_of_records records),
  record_read fields (text_of_records records) readable.0,
  refl,
  records_reached records readable.1,
)

-- no byte order mark stands at the start
pub no-mark : (b : ℕ) (rest : List ℕ) → (b == 239) ≡ false → strip_bom (b ∷ rest) ≡ b ∷ rest
unfolding strip_bom
no-mark b [] other = refl
no-mark b (c ∷ []) other = refl
no-mark b (c ∷ d ∷ rest) other = rw other refl

strip-records : (records : List (List (List ℕ))) → AllByRecursion IsReadable records
    → strip_bom (text_of_records records) ≡ text_of_records records
unfolding strip_bom
strip-records [] readable = refl
strip-records ([] ∷ records) readable = absurd readable.0
strip-records (([] ∷ fields) ∷ records) readable = absurd readable.0
strip-records (((b ∷ word) ∷ fields) ∷ records) readable = no-mark b _ readable.0.0

-- these are all the records of their text
pub has_records : (records : List (List (List ℕ))) → AllByRecursion IsReadable records
    → HasRecords (text_of_records records) records
unfolding next_record
has_records records readable = grind (arith, strip-records, records_reached)

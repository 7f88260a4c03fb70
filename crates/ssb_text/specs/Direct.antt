-- What a line is read off: the fields at the start of a text, as they stand.
use Rattle.std.specs.Prelude.{◌≡◌, ◌⊎◌, ℕ, ◌<◌, true, List, [], ◌∷◌, ◌++◌, length, Some, Ok}
use Rattle.std.specs.List.{list_all}
use Rattle.csv.specs.Machine.{next_record}
use Rattle.csv.specs.declared.parser.State.TheVariants as st
use Rattle.ssb_schema.specs.Columns.{Value, is_plain_byte, kinds_of}
use Rattle.ssb_schema.specs.Numerals.{number_of}
use Rattle.ssb_schema.specs.declared.table.Table.TheVariants as table
use Rattle.ssb_text.specs.Records.{has_columns, record_config}
use Rattle.ssb_text.specs.Row.{row_of, values_from}
use Rattle.ssb_text.specs.Spelling.{text_of, without_spaces}

-- a text begins with a field, a bar, and these bytes
pub record BeginsWithField (text field behind : List ℕ) : Type 0 where
  pub parted : text ≡ field ++ 124 ∷ behind
  pub plain : list_all is_plain_byte field ≡ true

-- the same, where the field spells this number
pub record BeginsWithNumber (text : List ℕ) (number : ℕ) (behind : List ℕ) : Type 0 where
  pub field : List ℕ
  pub begins : BeginsWithField text field behind
  pub spelled : number_of (without_spaces field) ≡ Some number

-- the same, where it spells this text
pub record BeginsWithText (text bytes behind : List ℕ) : Type 0 where
  pub field : List ℕ
  pub begins : BeginsWithField text field behind
  pub spelled : text_of (without_spaces field) ≡ Some bytes

-- a line ends, with or without a bar, at a line feed or the end of the text, and behind it are these bytes
abbrev pub EndsLine : List ℕ → List ℕ → Type 0
EndsLine end behind =
    ((end ≡ []) × (behind ≡ [])) ⊎ (end ≡ 10 ∷ behind) ⊎ ((end ≡ 124 ∷ []) × (behind ≡ [])) ⊎ (end ≡ 124 ∷ 10 ∷ behind)

-- a text begins with the last field of a line, which spells this text
pub record EndsWithText (text bytes behind : List ℕ) : Type 0 where
  pub field : List ℕ
  pub end : List ℕ
  pub parted : text ≡ field ++ end
  pub plain : list_all is_plain_byte field ≡ true
  pub ends : EndsLine end behind
  pub spelled : text_of (without_spaces field) ≡ Some bytes

-- csv's first record of a text has these fields, and behind it are these bytes, from which it goes on as at a start
abbrev pub FirstRecord : List ℕ → List (List ℕ) → List ℕ → Type 0
FirstRecord text fields behind =
    next_record record_config st.StartRecord [] [] text ≡ Some (fields, st.StartRecord, behind)

-- the same of a record that was begun: whatever fields stand before the text, these follow them
abbrev pub LastFields : List ℕ → List (List ℕ) → List ℕ → Type 0
LastFields text fields behind = (before : List (List ℕ))
    → next_record record_config st.InField before [] text ≡ Some (before ++ fields, st.StartRecord, behind)

-- the first record of a text has a line's columns, which spell these values, and behind it are these, fewer bytes; they
-- are the last columns of a record that was begun, too
pub record BeginsWithRow (text : List ℕ) (values : List Value) (behind : List ℕ) : Type 0 where
  pub fields : List (List ℕ)
  pub first : FirstRecord text fields behind
  pub last : LastFields text fields behind
  pub columns : has_columns (length (kinds_of table.Lineorder)) fields ≡ true
  pub spelled : values_from table.Lineorder 0 (kinds_of table.Lineorder) fields ≡ Ok values
  pub fewer : length behind < length text

-- the same, where they are those of a line
pub record BeginsWithLine (text : List ℕ) (values : List Value) (behind : List ℕ) : Type 0 where
  pub fields : List (List ℕ)
  pub first : FirstRecord text fields behind
  pub last : LastFields text fields behind
  pub spelled : row_of table.Lineorder fields ≡ Ok values
  pub fewer : length behind < length text

-- a text begins with the last field of a record, which ends with a line feed and spells this number
pub record EndsWithNumber (text : List ℕ) (number : ℕ) (behind : List ℕ) : Type 0 where
  pub field : List ℕ
  pub parted : text ≡ field ++ 10 ∷ behind
  pub plain : list_all is_plain_byte field ≡ true
  pub spelled : number_of (without_spaces field) ≡ Some number

-- a word that a record may begin with
pub record IsWord (word : List ℕ) : Type 0 where
  pub some : 0 < length word
  pub plain : list_all is_plain_byte word ≡ true

-- a text's first record has these fields, and behind it are these, fewer bytes
pub record BeginsWithRecord (text : List ℕ) (fields : List (List ℕ)) (behind : List ℕ) : Type 0 where
  pub first : FirstRecord text fields behind
  pub fewer : length behind < length text

-- a text's first record has this word and one more field, which spells this number
pub record BeginsWithNumbered (word text : List ℕ) (number : ℕ) (behind : List ℕ) : Type 0 where
  pub field : List ℕ
  pub begins : BeginsWithRecord text (word ∷ field ∷ []) behind
  pub spelled : number_of (without_spaces field) ≡ Some number

-- a text's first record has this word, and then the columns of a line of these values
pub record BeginsWithLined (word text : List ℕ) (values : List Value) (behind : List ℕ) : Type 0 where
  pub fields : List (List ℕ)
  pub begins : BeginsWithRecord text (word ∷ fields) behind
  pub spelled : row_of table.Lineorder fields ≡ Ok values

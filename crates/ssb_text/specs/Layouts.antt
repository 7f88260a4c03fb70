-- How the files of tables are laid out, and the text of a table's rows, whatever the layout.
use Rattle.std.specs.Prelude.{◌≡◌, ◌≢◌, ◌⊎◌, ℕ, ◌+◌, ◌<◌, Bool, true, false, ◌||◌, ◌&&◌, not, ◌==◌, List, ◌∷◌, ◌++◌}
use Rattle.std.specs.Prelude.{[], codes, length, map, count_by, if◌then◌else◌, Option, Some, option_map}
use Rattle.std.specs.Char.{is_ascii, is_ascii_alphanumeric}
use Rattle.std.specs.List.{AllByRecursion}
use Rattle.ssb_schema.specs.Columns.{kinds_of}
use Rattle.ssb_schema.specs.declared.table.Table.{Table}
use Rattle.ssb_text.specs.Load.{reader_of}
use Rattle.ssb_text.specs.declared.barred.Barred.{Barred}
use Rattle.ssb_text.specs.declared.error.LoadError.{LoadError}
use Rattle.ssb_text.specs.declared.error.LoadError.TheVariants as errors
use Rattle.ssb_text.specs.declared.layout.Delimiter.{Delimiter}
use Rattle.ssb_text.specs.declared.layout.TableLayout.{TableLayout}
use Rattle.ssb_text.specs.declared.table_files.TableFiles.{TableFiles}

abbrev pub ends_line : ℕ → Bool
ends_line b = (b == 10) || (b == 13)

abbrev pub is_quote : ℕ → Bool
is_quote b = (b == 34) || (b == 39)

-- whether a byte can part fields: it is of ASCII, and no digit, letter, quote or end of a line
abbrev pub can_part : ℕ → Bool
can_part b = is_ascii b && (not (is_ascii_alphanumeric b) && (not (is_quote b) && not (ends_line b)))

-- a word names a delimiter, by its byte: the byte itself, or a tab by its name
abbrev pub Names : List ℕ → ℕ → Type 0
Names word byte = (word ≡ byte ∷ []) ⊎ (((word ≡ codes "tab") ⊎ (word ≡ codes "\\t")) × (byte ≡ 9))

-- whether a byte parts fields: it is the delimiter or a bar
abbrev pub parts : Delimiter → ℕ → Bool
parts delimiter b = (b == delimiter.byte) || (b == 124)

-- that of the benchmark: bars, and no heads
abbrev pub benchmark_layout : TableLayout
benchmark_layout = record { delimiter = record { byte = 124 }; has_heads = false }

abbrev pub is_benchmark : TableLayout → Bool
is_benchmark layout = (layout.delimiter.byte == 124) && not layout.has_heads

-- a byte with a bar in the place of a delimiter
abbrev pub as_bar : Delimiter → ℕ → ℕ
as_bar delimiter b = if b == delimiter.byte then 124 else b

abbrev pub with_bars : Delimiter → List ℕ → List ℕ
with_bars delimiter bytes = map (as_bar delimiter) bytes

-- the bytes of a reader with bars, if those of the reader in it are known
abbrev pub barred_remaining : {R : Type 0} → (R → Option (List ℕ)) → Barred R → Option (List ℕ)
barred_remaining remaining barred = option_map (with_bars barred.delimiter) (remaining barred.reader)

-- how many bytes a line of heads may have
abbrev pub most_heads : ℕ
most_heads = 65536

-- a line has so many fields, or one more
abbrev pub HasFields : Delimiter → ℕ → List ℕ → Type 0
HasFields delimiter count line =
    (count_by (parts delimiter) line + 1 ≡ count) ⊎ (count_by (parts delimiter) line ≡ count)

-- a file begins with a line of so many fields, behind which its rows stand
pub record HasHeads (delimiter : Delimiter) (count : ℕ) (file rows : List ℕ) : Type 0 where
  pub heads : List ℕ
  pub parted : file ≡ heads ++ 10 ∷ rows
  pub one_line : AllByRecursion (λ b. b ≢ 10) heads
  pub short : length heads < most_heads
  pub fields : HasFields delimiter count heads

-- these bytes of a file stand below its heads, where there are any
abbrev pub AreBelow : Bool → Delimiter → ℕ → List ℕ → List ℕ → Type 0
AreBelow true delimiter count file rows = HasHeads delimiter count file rows
AreBelow false delimiter count file rows = rows ≡ file

-- the text of a table's rows: what stands below its heads, with a bar in the place of each delimiter
pub record IsRowsText (layout : TableLayout) (t : Table) (known : Option (List ℕ)) (text : List ℕ) : Type 0 where
  pub file : List ℕ
  pub is : known ≡ Some file
  pub rows : List ℕ
  pub below : AreBelow layout.has_heads layout.delimiter (length (kinds_of t)) file rows
  pub barred : text ≡ with_bars layout.delimiter rows

-- these are the texts of the rows of the five tables
abbrev pub AreRows : {R : Type 0} → (R → Option (List ℕ)) → TableFiles R → (Table → List ℕ) → Type 0
AreRows remaining files texts =
    (t : Table) → IsRowsText files.layout t (remaining (reader_of files.tables t)) (texts t)

-- the line of heads of a table was not read: its reader failed, or there is no such line, which is told as its row 1
abbrev pub IsHeadsFault : TableLayout → Table → Option (List ℕ) → LoadError → Type 0
IsHeadsFault layout t known e =
    (e ≡ errors.Read t)
    ⊎ ((e ≡ errors.FieldCount t 1) × ((text : List ℕ) → IsRowsText layout t known text → ⊥))

-- the same of one of the five
abbrev pub HasHeadsFault : {R : Type 0} → (R → Option (List ℕ)) → TableFiles R → LoadError → Type 0
HasHeadsFault remaining files e =
    (t : Table) × IsHeadsFault files.layout t (remaining (reader_of files.tables t)) e

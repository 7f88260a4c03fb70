-- The records of a text whose fields are parted by `|`, and how far a reader has come in them.
use Rattle.std.specs.Prelude.{◌≡◌, ℕ, ◌+◌, ◌&&◌, ◌||◌, Bool, true, false, List, [], ◌∷◌, ◌++◌, length, get_or, Option}
use Rattle.std.specs.Prelude.{Some, ◌==◌}
use Rattle.csv.specs.Reading.{AreRecords, Reached, Ready, default_config, reader_config, reader_state, reader_trim}
use Rattle.csv.specs.Reading.{source_of, strip_bom}
use Rattle.csv.specs.declared.error.ErrorKind.{ErrorKind}
use Rattle.csv.specs.declared.error.ErrorKind.TheVariants as kind
use Rattle.csv.specs.declared.parser.Config.{Config}
use Rattle.csv.specs.declared.parser.State.{State}
use Rattle.csv.specs.declared.parser.State.TheVariants as st
use Rattle.csv.specs.declared.reader.Reader.{Reader}
use Rattle.csv.specs.declared.reader.Trim.TheVariants as trim
use Rattle.ssb_text.specs.declared.records.ReadError.{ReadError}
use Rattle.ssb_text.specs.declared.records.ReadError.TheVariants as read

-- fields are parted by `|`, and no quotes are known
abbrev pub record_config : Config
record_config = record default_config { delimiter = 124; quoting = false }

-- these are all the records of a text, without a byte order mark at its start
abbrev pub HasRecords : List ℕ → List (List (List ℕ)) → Type 0
HasRecords text records = AreRecords record_config st.StartRecord (strip_bom text) records

-- these are the first records of a text
abbrev pub BeginsWith : List ℕ → List (List (List ℕ)) → Type 0
BeginsWith text records = (s : State) × (unread : List ℕ)
    × Reached record_config st.StartRecord (strip_bom text) records s unread

-- whether a record has so many fields, or one more that has no bytes
abbrev pub has_columns : ℕ → List (List ℕ) → Bool
has_columns count fields = (length fields == count) ||
    ((length fields == count + 1) && (length (get_or fields count []) == 0))

-- a reader reads records in this way
pub record IsRecordReader {R : Type 0} (reader : Reader R) : Type 0 where
  pub config : reader_config reader ≡ record_config
  pub trim : reader_trim reader ≡ trim.None
  pub ready : Ready reader

-- a reader has given these first records of a text, and gives those of the unread bytes next
pub record HasGiven {R : Type 0} (remaining : R → Option (List ℕ)) (text : List ℕ) (reader : Reader R)
    (records : List (List (List ℕ))) : Type 0 where
  pub unread : List ℕ
  pub source : source_of remaining reader ≡ Some unread
  pub reached : Reached record_config st.StartRecord (strip_bom text) records (reader_state reader) unread

-- a read that found a record gave the next one of any text, and one that found none had given them all
abbrev pub GivesNext : {R : Type 0} → (R → Option (List ℕ)) → Reader R → Reader R → Bool → List (List ℕ) → Type 0
GivesNext remaining old new true fields =
    (text : List ℕ) (records : List (List (List ℕ))) → HasGiven remaining text old records
    → HasGiven remaining text new (records ++ fields ∷ [])
GivesNext remaining old new false fields =
    (text : List ℕ) (records : List (List (List ℕ))) → HasGiven remaining text old records → HasRecords text records

-- why a record could not be read, of an error of csv: all but its want of memory is a failed read
abbrev pub read_error_of : ErrorKind → ReadError
read_error_of kind.OutOfMemory = read.OutOfMemory
read_error_of _ = read.Read

use Rattle.std.proofs.Common.{arith}
-- How far a reader has come in a text.
use Rattle.std.proofs.Common.{◌≡◌, ℕ, Bool, true, false, List, [], Option, Some, ◌∙◌}
use Rattle.std.specs.Option.{option_map}
use Rattle.csv.specs.Reading.{ReadRecord, Reached, reader_state, source_of, strip_bom}
use Rattle.csv.specs.declared.parser.State.TheVariants as st
use Rattle.csv.specs.declared.reader.Reader.{Reader}
use Rattle.csv.proofs.ReadFacts.{rows-end, rows-more}
use Rattle.ssb_text.specs.Records.{GivesNext, HasGiven, IsRecordReader}

-- at the start no record was given
pub given_nothing : {R : Type 0} (remaining : R → Option (List ℕ)) (source : R) (text : List ℕ) (reader : Reader R)
    → source_of remaining reader ≡ option_map strip_bom (remaining source) → reader_state reader ≡ st.StartRecord
    → remaining source ≡ Some text → HasGiven remaining text reader []
unfolding Reached
given_nothing remaining source text reader from start known = grind arith

-- what a read of csv gives
pub read_gives : {R : Type 0} (remaining : R → Option (List ℕ)) (old new : Reader R) (found : Bool)
    (fields : List (List ℕ))
    → IsRecordReader old → ReadRecord remaining old new found fields → GivesNext remaining old new found fields
read_gives remaining old new true fields is read = grind (arith, rows-more)
read_gives remaining old new false fields is read = grind (arith, rows-end)

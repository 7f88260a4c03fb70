-- What is known of a block while its lines are parsed.
use Rattle.std.proofs.Common.{ℕ, true, Bor, List, Option, Some}
use Rattle.csv.specs.declared.reader.Reader.{Reader}
use Rattle.ssb_schema.specs.Columns.{Value}
use Rattle.ssb_schema.specs.declared.table.Table.TheVariants as table
use Rattle.ssb_text.specs.Records.{GivesNext}
use Rattle.ssb_text.specs.Row.{Fails, row_of}
use Rattle.ssb_text.specs.declared.error.LineFault.{LineFault}
use Rattle.ssb_text.proofs.ReadingLaws.{HasRead}
use Rattle.ssb_text.specs.Lines.{StopsAt}

-- the bytes of a slice that is read
abbrev pub slice_bytes : Bor (List ℕ) → Option (List ℕ)
slice_bytes s = Some s.now

-- the records that a reader has given of a block spell these lines
abbrev pub HasParsed : List ℕ → Reader (Bor (List ℕ)) → List (List Value) → Type 0
HasParsed block reader rows = HasRead slice_bytes table.Lineorder block reader rows

-- the next record has a fault
pub parsed_until : (block : List ℕ) (old new : Reader (Bor (List ℕ))) (rows : List (List Value))
    (fields : List (List ℕ)) (why : LineFault)
    → HasParsed block old rows → GivesNext slice_bytes old new true fields → Fails why (row_of table.Lineorder fields)
    → StopsAt block rows why
parsed_until block old new rows fields why read next fails =
    let given = next block read.records read.given in
    record {
      records = read.records;
      fields = fields;
      begins = (_, given.unread, given.reached);
      spelled = read.spelled;
      fails = fails;
    }

use Rattle.std.proofs.Common.{◌≡◌, map, length}
use Rattle.ssb_text.specs.Records.{IsRecordReader}
use Rattle.ssb_text.proofs.ReadingLaws.{HasReadKnown}
use Rattle.ssb_text.proofs.table.read_table.Given as goal

abbrev pub invariant-loop-number : goal.invariant-loop-number
invariant-loop-number g l = record {
  ready : IsRecordReader l.reader;
  count : length l.rows.items ≡ l.number;
  so_far : HasReadKnown g.R.Read.remaining g.T.TableRow.of_table (g.R.Read.remaining l.fn.source) l.reader
      (map g.T.TableRow.values l.rows.items);
}

use Rattle.std.proofs.Common.{map, take, All}
use Rattle.std.specs.Io.KnownBytes.{Appends}
use Rattle.ssb_text.specs.RoundTrip.{IsTableRow}
use Rattle.ssb_text.specs.TableText.{rows_text}
use Rattle.ssb_text.proofs.rows.write_rows.Given as goal

-- the rows so far
abbrev pub invariant-loop-row : goal.invariant-loop-row
invariant-loop-row g l = record {
  text : Appends (g.W.Write.contents l.fn.writer) (g.W.Write.contents l.writer)
      (rows_text (map g.T.TableRow.values (take l.row-index l.rows)));
  rows : All (λ row. IsTableRow g.T.TableRow.of_table (g.T.TableRow.values row)) (take l.row-index l.rows);
}

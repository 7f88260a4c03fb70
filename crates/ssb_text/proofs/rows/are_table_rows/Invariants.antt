use Rattle.std.proofs.Common.{take, All}
use Rattle.ssb_text.specs.RoundTrip.{IsTableRow}
use Rattle.ssb_text.proofs.rows.are_table_rows.Given as goal

abbrev pub invariant-loop-row : goal.invariant-loop-row
invariant-loop-row g l =
    All (λ row. IsTableRow g.T.TableRow.of_table (g.T.TableRow.values row)) (take l.row-index l.rows)

use Rattle.std.proofs.Common.{refl}
use Rattle.ssb_text.specs.RoundTrip.{IsTableRow}
use Rattle.ssb_text.proofs.EachLaws.{all_held, one_more}
use Rattle.ssb_text.proofs.rows.are_table_rows.Goals as goal

pub loop-row-preserved : goal.loop-row-preserved
loop-row-preserved g c =
    one_more (λ row. IsTableRow g.T.TableRow.of_table (g.T.TableRow.values row)) c.args.rows.now c.loop-row.row-index
    c.row-item.result c.loop-row-test.true c.row-item.is c.is_table_row.ensures c.loop-row.invariant

pub returns : goal.returns
returns g c =
    all_held (λ row. IsTableRow g.T.TableRow.of_table (g.T.TableRow.values row)) c.args.rows.now c.args.rows.now
    c.loop-row.row-index c.loop-row-test.false refl c.loop-row.invariant

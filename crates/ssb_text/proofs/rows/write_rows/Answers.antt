use Rattle.std.proofs.Common.{map}
use Rattle.std.proofs.lemmas.List.Elements.{All-map, recursion_from_All}
use Rattle.ssb_text.proofs.WrittenLaws.{writes_stopped}
use Rattle.ssb_text.proofs.EachLaws.{each, one_more}
use Rattle.ssb_text.specs.RoundTrip.{IsTableRow}
use Rattle.ssb_text.proofs.RowsTextLaws.{appends_row, part_row}
use Rattle.ssb_text.proofs.rows.write_rows.Goals as goal

pub returns-in_err-write_row-clause-text : goal.returns-in_err-write_row-clause-text
returns-in_err-write_row-clause-text g c =
    let contents = g.W.Write.contents in
    writes_stopped _ c.from_residual.result (contents c.args.writer.now) (contents c.write_row.new.writer) _
    c.from_residual.ensures.1
    (part_row g.T.TableRow.values c.args.rows.now c.loop-row.row-index c.row-item.result (contents c.args.writer.now)
    (contents c.loop-row.writer) (contents c.write_row.new.writer) c.loop-row-test.true c.row-item.is
    c.loop-row.invariant.text c.in_err-write_row.ensures.text)

pub loop-row-preserved : goal.loop-row-preserved
loop-row-preserved g c =
    let contents = g.W.Write.contents in
    record {
      text = appends_row g.T.TableRow.values c.args.rows.now c.loop-row.row-index c.row-item.result
          (contents c.args.writer.now) (contents c.loop-row.writer) (contents c.write_row.new.writer)
          c.loop-row-test.true c.row-item.is c.loop-row.invariant.text c.in_ok-write_row.ensures.text;
      rows = one_more (λ row. IsTableRow g.T.TableRow.of_table (g.T.TableRow.values row)) c.args.rows.now
          c.loop-row.row-index c.row-item.result c.loop-row-test.true c.row-item.is c.in_ok-write_row.ensures.row
          c.loop-row.invariant.rows;
    }

pub returns-clause-rows : goal.returns-clause-rows
returns-clause-rows g c =
    let fits = IsTableRow g.T.TableRow.of_table in
    let rows = c.args.rows.now in
    recursion_from_All fits (map g.T.TableRow.values rows) (All-map fits g.T.TableRow.values rows
    (each (λ row. fits (g.T.TableRow.values row)) rows c.loop-row.row-index c.loop-row-test.false
    c.loop-row.invariant.rows))

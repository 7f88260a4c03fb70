use Rattle.ssb_schema.specs.Rows.{line_values}
use Rattle.ssb_text.proofs.WrittenLaws.{part_longer, writes_next, writes_stopped}
use Rattle.ssb_text.specs.TableText.{row_text}
use Rattle.changes_command.specs.SignedText.{barred, sign_text}
use Rattle.changes_command.proofs.TextLaws.{lead, report_in_parts}
use Rattle.changes_command.proofs.report_text.write_report.Goals as goal

pub returns-in_err-write_pieces : goal.returns-in_err-write_pieces
returns-in_err-write_pieces g c =
    let contents = g.W.Write.contents in
    let a = contents c.args.out.now in
    let b = contents c.write_pieces.new.writer in
    writes_stopped _ c.from_residual.result a b _ c.from_residual.ensures.1
    (rw (report_in_parts c.args.commit c.args.sign c.args.line.now)
    (part_longer a b (lead c.args.commit (barred (sign_text c.args.sign))) (row_text (line_values c.args.line.now))
    (rw c.mark.ensures at c.in_err-write_pieces.ensures)))

pub returns : goal.returns
returns g c =
    let contents = g.W.Write.contents in
    rw (report_in_parts c.args.commit c.args.sign c.args.line.now)
    (writes_next (contents c.args.out.now) (contents c.write_pieces.new.writer) _
    (lead c.args.commit (barred (sign_text c.args.sign))) (row_text (line_values c.args.line.now)) c.write_row.result
    (rw c.mark.ensures at c.in_ok-write_pieces.ensures) c.write_row.ensures.text)

use Rattle.std.proofs.Common.{◌∙◌, ap, decimal, map, subst, sym}
use Rattle.ssb_schema.specs.Columns.{value_of}
use Rattle.ssb_schema.specs.Rows.{line_values}
use Rattle.ssb_text.proofs.WrittenLaws.{part_longer, writes_next, writes_stopped}
use Rattle.ssb_text.specs.Written.{StopsShort, Writes}
use Rattle.std.specs.Io.KnownBytes.{Appends}
use Rattle.changes_command.specs.JsonText.{lead_text, line_members}
use Rattle.changes_command.proofs.JsonLaws.{json_in_parts, lead_written}
use Rattle.changes_command.proofs.json_text.write_json.Goals as goal

pub returns-in_err-write_pieces : goal.returns-in_err-write_pieces
returns-in_err-write_pieces g c =
    let contents = g.W.Write.contents in
    let a = contents c.args.out.now in
    let b = contents c.write_pieces.new.writer in
    let lead = lead_text (decimal c.args.commit) c.args.sign in
    writes_stopped _ c.from_residual.result a b _ c.from_residual.ensures.1
    (subst (StopsShort a b) (sym (json_in_parts c.args.commit c.args.sign c.args.line.now))
    (part_longer a b lead (line_members (line_values c.args.line.now))
    (subst (StopsShort a b) (lead_written (decimal c.args.commit) c.args.sign)
    (rw c.mark.ensures at c.in_err-write_pieces.ensures))))

pub returns : goal.returns
returns g c =
    let contents = g.W.Write.contents in
    let a = contents c.args.out.now in
    let b = contents c.write_pieces.new.writer in
    let d = contents c.write_members.new.out in
    let r = c.write_members.result in
    let lead = lead_text (decimal c.args.commit) c.args.sign in
    subst (Writes a d r) (sym (json_in_parts c.args.commit c.args.sign c.args.line.now))
    (writes_next a b d lead (line_members (line_values c.args.line.now)) r
    (subst (Appends a b) (lead_written (decimal c.args.commit) c.args.sign)
    (rw c.mark.ensures at c.in_ok-write_pieces.ensures))
    (subst (λ values. Writes b d r (line_members values)) (ap (map value_of) c.as_slice.ensures ∙ c.cells.ensures.values)
    c.write_members.ensures))

use Rattle.std.proofs.Common.{◌%◌, ◌∙◌, ap, refl, subst}
use Rattle.std.specs.Prelude.{unsigned_abs}
use Rattle.std.proofs.Math.Facts.{to_z-of_z}
use Rattle.ssb_text.specs.Written.{Writes}
use Rattle.ssb_report.specs.StatementText.{sign_of}
use Rattle.ssb_report.proofs.CellLaws.{decimal_is}
use Rattle.ssb_report.proofs.statement.write_decimal.Goals as goal

pub returns : goal.returns
returns g c =
    let contents = g.W.Write.contents in
    let size = c.unsigned_abs-size.result in
    let same = to_z-of_z c.ranges.number in
    subst (Writes (contents c.args.writer.now) (contents c.write_parts.new.writer) c.write_parts.result)
    (decimal_is c.args.number c.sign_of.result.now c.format-whole.result.now size (size % 10000)
    (c.sign_of.ensures ∙ ap sign_of same) c.format-whole.ensures.text
    (c.unsigned_abs-size.ensures.value ∙ ap unsigned_abs same) refl) c.write_parts.ensures

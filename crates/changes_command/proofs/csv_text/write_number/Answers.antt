use Rattle.std.proofs.Common.{◌∷◌, append-nil, ap, arith, decimal, subst, sym, ◌∙◌}
use Rattle.ssb_text.specs.Written.{Writes}
use Rattle.changes_command.proofs.CsvLaws.{bare_field, bare_number}
use Rattle.changes_command.proofs.csv_text.write_number.Goals as goal

pub returns : goal.returns
returns g c =
    let contents = g.W.Write.contents in
    let text = decimal c.args.number in
    subst (Writes (contents c.args.out.now) (contents c.write_pieces.new.writer) c.write_pieces.result)
    (ap (λ t. 44 ∷ t) (append-nil text)
    ∙ sym (bare_field text (bare_number c.args.number (omega (arith, c.ranges.number.fits))))) c.write_pieces.ensures

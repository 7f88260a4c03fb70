use Rattle.std.proofs.Common.{◌∷◌, append-nil, ap, subst, sym, ◌∙◌}
use Rattle.ssb_text.specs.Written.{Writes}
use Rattle.changes_command.proofs.CsvLaws.{bare_field, quoted_field}
use Rattle.changes_command.proofs.csv_text.write_text.Goals as goal

pub returns-then-is_quoted : goal.returns-then-is_quoted
returns-then-is_quoted g c =
    let contents = g.W.Write.contents in
    subst (Writes (contents c.args.out.now) (contents c.write_quoted.new.out) c.write_quoted.result)
    (sym (quoted_field c.args.text.now (sym c.is_quoted.ensures ∙ c.if-is_quoted.true))) c.write_quoted.ensures

pub returns : goal.returns
returns g c =
    let contents = g.W.Write.contents in
    let text = c.args.text.now in
    subst (Writes (contents c.args.out.now) (contents c.write_pieces.new.writer) c.write_pieces.result)
    (ap (λ t. 44 ∷ t) (append-nil text) ∙ sym (bare_field text (sym c.is_quoted.ensures ∙ c.if-is_quoted.false)))
    c.write_pieces.ensures

use Rattle.std.proofs.Common.{subst, sym, ◌∙◌}
use Rattle.ssb_text.specs.Written.{Writes}
use Rattle.changes_command.proofs.JsonLaws.{bare_quoted}
use Rattle.changes_command.proofs.json_text.write_text.Goals as goal

pub returns : goal.returns
returns g c =
    let contents = g.W.Write.contents in
    subst (Writes (contents c.args.out.now) (contents c.write_pieces.new.writer) c.write_pieces.result)
    (bare_quoted c.args.text.now (sym c.has_escapes.ensures ∙ c.if-has_escapes.false)) c.write_pieces.ensures

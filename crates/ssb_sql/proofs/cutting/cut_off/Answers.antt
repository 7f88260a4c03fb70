use Rattle.std.proofs.Common.{◌∙◌, ap, sym}
use Rattle.ssb_sql.proofs.EndLaws.{boundary, front_ends}
use Rattle.ssb_sql.specs.Lexemes.{front_of}
use Rattle.ssb_sql.proofs.cutting.cut_off.Goals as goal

pub split_at-requires : goal.split_at-requires
split_at-requires c =
    boundary c.args.text.now c.in_ok-front.front.size c.utf8.text
    (front_ends c.args.text.now c.in_ok-front.front
    (sym (c.front_of.ensures ∙ ap front_of c.as_bytes.ensures.value) ∙ c.in_ok-front.was))

use Rattle.std.proofs.Common.{◌∙◌, sym}
use Rattle.ssb_sql.proofs.QuotedLaws.{quoted_goes}
use Rattle.ssb_sql.proofs.lexeme.quoted_len.Goals as goal

pub loop-at-preserved : goal.loop-at-preserved
loop-at-preserved c =
    quoted_goes c.args.bytes.now c.loop-at.at _ c.loop-at.is_within c.is_within_behind-is_within.result _ c.loop-at-test.true
    (sym c.has_ended.ensures ∙ c.if-has_ended.false) c.is_within_behind-is_within.ensures c.loop-at.invariant

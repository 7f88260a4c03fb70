use Rattle.std.proofs.Common.{sym, ◌∙◌}
use Rattle.ssb_script.proofs.ClosingLaws.{last_dropped, last_kept}
use Rattle.ssb_script.proofs.question.without_closing.Goals as goal

pub returns-in-len1-up : goal.returns-in-len1-up
returns-in-len1-up c =
    last_dropped (λ field. field.now) c.args.fields.now _ c.in-len1-up.len_at_least
    (sym c.is_empty.ensures ∙ c.if-is_empty.true)

pub returns-in_default-2 : goal.returns-in_default-2
returns-in_default-2 c =
    last_kept (λ field. field.now) c.args.fields.now _ c.in-len1-up.len_at_least
    (sym c.is_empty.ensures ∙ c.if-is_empty.false)

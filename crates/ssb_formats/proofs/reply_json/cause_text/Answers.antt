use Rattle.std.proofs.Common.{◌++◌, ◌∙◌, IsUtf8, ap, subst, sym}
use Rattle.ssb_report.specs.RefreshText.{cause_text}
use Rattle.ssb_formats.proofs.TextLaws.{cause_is_text}
use Rattle.ssb_formats.proofs.reply_json.cause_text.Goals as goal

pub text_in-requires : goal.text_in-requires
text_in-requires c =
    subst IsUtf8
    (sym (c.in-Ok.ensures ∙ ap (λ t. t ++ cause_text c.args.cause) c.new-bytes.ensures.items))
    (cause_is_text c.args.cause)

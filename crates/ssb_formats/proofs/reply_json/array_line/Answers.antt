use Rattle.std.proofs.Common.{◌≡◌, [], ◌∷◌, ◌++◌, ◌∙◌, ap, map}
use Rattle.serde_json.specs.View.{view}
use Rattle.serde_json.specs.Written.{compact_text, has_float}
use Rattle.ssb_formats.specs.JsonText.{list_data}
use Rattle.ssb_formats.specs.ReplyJson.{answer_data}
use Rattle.ssb_formats.proofs.JsonLaws.{answers_exact}
use Rattle.ssb_formats.proofs.reply_json.array_line.Goals as goal

pub returns : goal.returns
returns c =
    let is : view c.from-json.result ≡ list_data (map answer_data c.args.answers.now)
    = c.from-json.ensures ∙ ap list_data c.in_ok-list.ensures in
    c.in_ok-push.ensures.items
    ∙ ap (λ t. t ++ 10 ∷ []) (c.in_ok-line.ensures.text (ap has_float is ∙ answers_exact c.args.answers.now)
    ∙ ap compact_text is)

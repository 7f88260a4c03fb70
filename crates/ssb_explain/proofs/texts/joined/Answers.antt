use Rattle.std.proofs.Common.{◌∙◌}
use Rattle.std.proofs.lemmas.Result.{IfOk-weaker}
use Rattle.std.specs.String.{string_bytes}
use Rattle.ssb_explain.proofs.TextLaws.{joined_by}
use Rattle.ssb_explain.proofs.texts.joined.Goals as goal

pub returns : goal.returns
returns c = IfOk-weaker c.join.result _ _
    (λ text is. is ∙ joined_by string_bytes c.args.between.now c.args.texts.now) c.join.ensures.ok

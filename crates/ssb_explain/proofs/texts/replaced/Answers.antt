use Rattle.std.proofs.Common.{◌∙◌, map, ap}
use Rattle.std.proofs.lemmas.Result.{IfOk-weaker}
use Rattle.std.specs.List.{join_by}
use Rattle.ssb_explain.proofs.TextLaws.{joined_by}
use Rattle.ssb_explain.proofs.texts.replaced.Goals as goal

pub returns : goal.returns
returns c = IfOk-weaker c.join.result _ _
    (λ text is. is ∙ joined_by (λ part. part.now) c.args.other.now c.as_slice.result.now
    ∙ ap (λ parts. join_by (λ t. t) c.args.other.now (map (λ part. part.now) parts)) c.as_slice.ensures.value
    ∙ ap (λ texts. join_by (λ t. t) c.args.other.now texts) c.in_ok-parts.ensures) c.join.ensures.ok

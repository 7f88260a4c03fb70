use Rattle.std.proofs.Common.{◌≡◌, ◌∙◌, ◌++◌, ◌∷◌, codes, map}
use Rattle.std.specs.Prelude.{string_bytes}
use Rattle.std.proofs.lemmas.Result.{IfOk-weaker}
use Rattle.ssb_explain.specs.Words.{column_fields, explanation_text, key_text, record_line, request_fields}
use Rattle.ssb_explain.proofs.TextLaws.{three_joined}
use Rattle.ssb_explain.proofs.words.explained.Goals as goal

pub returns : goal.returns
returns c =
    let asked = c.args.question.now.0 in
    let constants = c.args.question.now.1 in
    let plan = c.args.plan.now in
    let request : c.as_str.result.now ≡ record_line (codes "query" ∷ request_fields asked constants)
    = c.as_str.ensures.value ∙ c.in_ok-request.ensures in
    let columns : c.as_str-2.result.now ≡ record_line (codes "columns" ∷ column_fields asked plan)
    = cc (c.as_str-2.ensures.value, c.in_ok-columns.ensures, c.query.ensures) in
    let order : c.as_str-3.result.now ≡ record_line (codes "order" ∷ map (key_text plan) plan.order)
    = c.as_str-3.ensures.value ∙ c.in_ok-order.ensures in
    let all : c.as_str.result.now ++ (c.as_str-2.result.now ++ c.as_str-3.result.now)
    ≡ explanation_text asked constants plan
    = three_joined c.as_str.result.now c.as_str-2.result.now c.as_str-3.result.now
    (record_line (codes "query" ∷ request_fields asked constants))
    (record_line (codes "columns" ∷ column_fields asked plan))
    (record_line (codes "order" ∷ map (key_text plan) plan.order)) request columns order in
    IfOk-weaker c.three.result
    (λ text. string_bytes text ≡ c.as_str.result.now ++ (c.as_str-2.result.now ++ c.as_str-3.result.now))
    (λ text. string_bytes text ≡ explanation_text asked constants plan) (λ text is. is ∙ all) c.three.ensures

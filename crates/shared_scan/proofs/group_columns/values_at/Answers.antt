use Rattle.std.proofs.Common.{ℕ, ◌≡◌, [], ◌∷◌, ◌++◌, map, take, get_or, sym, ap, ◌∙◌}
use Rattle.std.proofs.lemmas.List.{take_more, map_push}
use Rattle.std.proofs.lemmas.Option.{get_or_from_slice_get}
use Rattle.ssb_questions.specs.declared.value.Value.{Value}
use Rattle.ssb_questions.specs.declared.value.Value.TheVariants.{Number}
use Rattle.shared_scan.proofs.group_columns.values_at.Goals as goal

pub loop-code-preserved : goal.loop-code-preserved
loop-code-preserved c =
    let value_of : ℕ → Value = λ code. get_or c.args.dictionary.now code (Number 0) in
    let codes = c.args.codes.now in
    let i = c.loop-code.code-index in
    let code = get_or codes i 0 in
    let value : c.in_ok-clone.field-0 ≡ value_of code =
    c.in_ok-clone.ensures.cases ∙ sym (get_or_from_slice_get c.args.dictionary.now code c.value.result.now
    (Number 0) (sym c.value.ensures)) in
    c.in_ok-push.ensures.items ∙ (λ j. c.loop-code.invariant j ++ value j ∷ [])
    ∙ sym (map_push value_of (take i codes) code) ∙ ap (map value_of)
    (sym (take_more codes i 0 c.loop-code-test.true))

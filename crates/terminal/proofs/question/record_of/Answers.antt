use Rattle.std.proofs.Common.{◌++◌, ◌∙◌, ℕ, List, [], ◌∷◌, flat_map, ap, sym}
use Rattle.terminal.specs.Typed.{field_text, record_head}
use Rattle.terminal.proofs.FieldLaws.{over_references}
use Rattle.terminal.proofs.question.record_of.Goals as goal

pub returns : goal.returns
returns c =
    let fields = flat_map (λ constant. field_text constant.now) c.args.constants.now in
    c.in_ok-push.ensures.items ∙ ap (λ (text : List ℕ). text ++ 10 ∷ []) (c.in_ok-push_fields.ensures
    ∙ ap (λ (head : List ℕ). head ++ fields) c.in_ok-text.ensures
    ∙ ap (λ (text : List ℕ). record_head c.args.query ++ text) (sym (over_references c.args.constants.now)))

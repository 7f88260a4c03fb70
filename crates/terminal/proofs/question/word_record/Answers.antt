use Rattle.std.proofs.Common.{◌++◌, ◌∙◌, ℕ, List, [], ◌∷◌, flat_map, ap, sym}
use Rattle.terminal.specs.Typed.{field_text, record_spelling}
use Rattle.terminal.proofs.FieldLaws.{over_references}
use Rattle.terminal.proofs.question.word_record.Goals as goal

pub returns : goal.returns
returns c =
    let fields = flat_map (λ field. field_text field.now) c.args.behind.now in
    c.in_ok-push.ensures.items ∙ ap (λ (text : List ℕ). text ++ 10 ∷ []) (c.in_ok-push_fields.ensures
    ∙ ap (λ (head : List ℕ). head ++ fields) (c.in_ok-extend_from_slice.ensures.items
    ∙ ap (λ (text : List ℕ). text ++ c.spelling.result.now) c.new-text.ensures.items ∙ c.spelling.ensures)
    ∙ ap (λ (text : List ℕ). record_spelling c.args.word ++ text) (sym (over_references c.args.behind.now)))

use Rattle.std.proofs.Common.{◌≡◌, ◌++◌, flat_map, take}
use Rattle.terminal.specs.Typed.{field_text}
use Rattle.terminal.proofs.question.push_fields.Given as goal

abbrev pub invariant-loop-field : goal.invariant-loop-field
invariant-loop-field l = l.text.items
    ≡ l.fn.text.items ++ flat_map (λ field. field_text field.now) (take l.field-index l.fields)

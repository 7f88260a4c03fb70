use Rattle.std.proofs.Common.{◌≡◌, ◌++◌, drop, map}
use Rattle.std.specs.Option.{option_map}
use Rattle.ssb_script.specs.Lines.{texts_spelled}
use Rattle.ssb_script.proofs.question.texts_spelled.Given as goal

-- the texts so far, and those of the fields not yet read, are all
abbrev pub invariant-loop-field : goal.invariant-loop-field
invariant-loop-field l = option_map (λ rest. l.texts.items ++ rest)
    (texts_spelled (map (λ field. field.now) (drop l.field-index l.fields)))
    ≡ texts_spelled (map (λ field. field.now) l.fields)

use Rattle.std.proofs.Common.{◌≡◌, ◌∷◌, codes, map, take}
use Rattle.std.specs.String.{string_bytes}
use Rattle.ssb_questions.specs.Laws.{value_text}
use Rattle.ssb_questions.specs.Query.{name_of}
use Rattle.ssb_explain.proofs.words.own_fields.Given as goal

abbrev pub invariant-loop-constant : goal.invariant-loop-constant
invariant-loop-constant l =
    map string_bytes l.fields.items
    ≡ codes "query" ∷ name_of l.fn.question.0 ∷ map value_text (take l.constant-index l.constants)

use Rattle.std.proofs.Common.{◌≡◌, ◌∷◌, codes, map, take}
use Rattle.std.specs.String.{string_bytes}
use Rattle.ssb_questions.specs.ClauseSaid.{said}
use Rattle.ssb_questions.specs.Laws.{clause_text}
use Rattle.ssb_explain.proofs.words.star_fields.Given as goal

abbrev pub invariant-loop-clause : goal.invariant-loop-clause
invariant-loop-clause l =
    map string_bytes l.fields.items
    ≡ codes "query" ∷ codes "star" ∷ map clause_text (map said (take l.clause-index l.clauses))

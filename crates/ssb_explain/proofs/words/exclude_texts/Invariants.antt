use Rattle.std.proofs.Common.{◌≡◌, ◌++◌, map, take}
use Rattle.ssb_questions.specs.ClauseSaid.{said}
use Rattle.ssb_explain.specs.Words as spec
use Rattle.ssb_explain.proofs.words.exclude_texts.Given as goal

abbrev pub invariant-loop-text : goal.invariant-loop-text
invariant-loop-text l =
    map said l.clauses.items ≡ map said l.fn.clauses.items ++ map (spec.text_exclusion l.column) (take l.text-index l.texts)

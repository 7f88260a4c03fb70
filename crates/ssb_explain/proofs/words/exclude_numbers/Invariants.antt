use Rattle.std.proofs.Common.{◌≡◌, ◌++◌, map, take}
use Rattle.ssb_questions.specs.ClauseSaid.{said}
use Rattle.ssb_explain.specs.Words as spec
use Rattle.ssb_explain.proofs.words.exclude_numbers.Given as goal

abbrev pub invariant-loop-number : goal.invariant-loop-number
invariant-loop-number l =
    map said l.clauses.items ≡ map said l.fn.clauses.items ++ map (spec.number_exclusion l.column) (take l.number-index l.numbers)

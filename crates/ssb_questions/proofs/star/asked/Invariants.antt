use Rattle.std.proofs.Common.{◌≡◌, map, take}
use Rattle.std.specs.List.{filter_map}
use Rattle.ssb_questions.specs.ClauseSaid.{said}
use Rattle.ssb_questions.specs.Star as spec
use Rattle.ssb_questions.proofs.star.asked.Given as goal

abbrev pub invariant-loop-column : goal.invariant-loop-column
invariant-loop-column l =
    l.tests.items ≡ filter_map (spec.test_of (map said l.clauses)) (take l.column-index l.columns)

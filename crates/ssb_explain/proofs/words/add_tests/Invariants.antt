use Rattle.std.proofs.Common.{◌≡◌, ◌++◌, map, take}
use Rattle.ssb_questions.specs.ClauseSaid.{said}
use Rattle.ssb_explain.specs.Words as spec
use Rattle.ssb_explain.proofs.words.add_tests.Given as goal

abbrev pub invariant-loop-test : goal.invariant-loop-test
invariant-loop-test l =
    map said l.clauses.items ≡ map said l.fn.clauses.items ++ spec.tests_clauses (take l.test-index l.tests)

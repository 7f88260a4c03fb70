use Rattle.std.proofs.Common.{◌≡◌, ◌++◌, map, take}
use Rattle.ssb_questions.specs.Clause.{GroupsBy}
use Rattle.ssb_questions.specs.ClauseSaid.{said}
use Rattle.ssb_explain.proofs.words.add_groups.Given as goal

abbrev pub invariant-loop-column : goal.invariant-loop-column
invariant-loop-column l =
    map said l.clauses.items ≡ map said l.fn.clauses.items ++ map GroupsBy (take l.column-index l.groups)

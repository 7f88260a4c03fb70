use Rattle.std.proofs.Common.{◌≡◌, map, take}
use Rattle.std.specs.List.{filter_map}
use Rattle.ssb_questions.specs.Clauses.{clause_said}
use Rattle.ssb_questions.specs.ClauseSaid.{said}
use Rattle.ssb_questions.proofs.star.clauses.Given as goal

abbrev pub invariant-loop-constant : goal.invariant-loop-constant
invariant-loop-constant l = map said l.found.items ≡ filter_map clause_said (take l.constant-index l.constants)

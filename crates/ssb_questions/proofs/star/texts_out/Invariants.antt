use Rattle.std.proofs.Common.{◌≡◌, map, take}
use Rattle.std.specs.List.{filter_map}
use Rattle.ssb_questions.specs.ClauseSaid.{said}
use Rattle.ssb_questions.specs.Star as spec
use Rattle.ssb_questions.proofs.star.texts_out.Given as goal

abbrev pub invariant-loop-clause : goal.invariant-loop-clause
invariant-loop-clause l =
    l.texts.items ≡ filter_map (spec.text_out l.column) (map said (take l.clause-index l.clauses))

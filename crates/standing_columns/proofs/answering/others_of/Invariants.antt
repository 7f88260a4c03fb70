use Rattle.std.proofs.Common.{◌≡◌, not, take}
use Rattle.std.specs.List.{filter}
use Rattle.standing_columns.specs.Standing.{stands}
use Rattle.standing_columns.proofs.answering.others_of.Given as goal

abbrev pub invariant-loop-question : goal.invariant-loop-question
invariant-loop-question l =
    l.others.items ≡ filter (λ question. not (stands l.standing question)) (take l.question-index l.questions)

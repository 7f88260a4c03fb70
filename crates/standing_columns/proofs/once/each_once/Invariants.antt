use Rattle.std.proofs.Common.{◌≡◌, [], take}
use Rattle.std.specs.Prelude.{fold}
use Rattle.standing_columns.specs.Standing.{with_question}
use Rattle.standing_columns.proofs.once.each_once.Given as goal

abbrev pub invariant-loop-question : goal.invariant-loop-question
invariant-loop-question l = l.kept.items ≡ fold with_question [] (take l.question-index l.questions)

use Rattle.std.proofs.Common.{◌≡◌, ◌++◌, take}
use Rattle.query_command.proofs.asking.push_questions.Given as goal

abbrev pub invariant-loop-question : goal.invariant-loop-question
invariant-loop-question l = l.questions.items ≡ l.fn.questions.items ++ take l.question-index l.own

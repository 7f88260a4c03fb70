use Rattle.std.proofs.Common.{◌≡◌, ◌++◌, take}
use Rattle.ssb_script.proofs.statement.push_shared.Given as goal

abbrev pub invariant-loop-question : goal.invariant-loop-question
invariant-loop-question l = l.questions.items ≡ l.fn.questions.items ++ take l.question-index l.more

use Rattle.std.proofs.Common.{◌≡◌, ◌++◌, take}
use Rattle.ssb_server.proofs.passes.share_questions.Given as goal

abbrev pub invariant-loop-question : goal.invariant-loop-question
invariant-loop-question l = l.all.items ≡ l.initial.all.items ++ take l.question-index l.questions

use Rattle.std.proofs.Common.{◌≡◌, take}
use Rattle.history_core.proofs.questions.share.Given as goal

abbrev pub invariant-loop-question : goal.invariant-loop-question
invariant-loop-question l = l.same.items ≡ take l.question-index l.list

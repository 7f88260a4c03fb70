use Rattle.std.proofs.Common.{◌≡◌, take}
use Rattle.ssb_server.specs.Passes.{all_questions}
use Rattle.ssb_server.proofs.passes.questions_of.Given as goal

abbrev pub invariant-loop-request : goal.invariant-loop-request
invariant-loop-request l = l.all.items ≡ all_questions (take l.request-index l.requests)

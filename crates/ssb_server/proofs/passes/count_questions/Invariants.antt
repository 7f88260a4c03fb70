use Rattle.std.proofs.Common.{◌+◌, ◌≤◌, drop, length}
use Rattle.ssb_server.specs.Passes.{all_questions}
use Rattle.ssb_server.proofs.passes.count_questions.Given as goal

-- what is counted so far, and the questions of the requests that are left
abbrev pub invariant-loop-request : goal.invariant-loop-request
invariant-loop-request l =
    l.count + length (all_questions (drop l.request-index l.requests)) ≤ length (all_questions l.requests)

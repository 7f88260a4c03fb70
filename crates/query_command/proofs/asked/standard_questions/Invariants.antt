use Rattle.std.proofs.Common.{◌≡◌, map, take}
use Rattle.query_command.specs.Asked.{queries_in_order, standard_question}
use Rattle.query_command.proofs.asked.standard_questions.Given as goal

-- the questions so far
abbrev pub invariant-loop-query : goal.invariant-loop-query
invariant-loop-query l = l.questions.items ≡ map standard_question (take l.query-index queries_in_order)

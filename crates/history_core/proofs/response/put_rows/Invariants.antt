use Rattle.std.proofs.Common.{◌≡◌, ◌+◌, ◌≤◌, ◌++◌, length, vec_len, vec_capacity}
use Rattle.std.specs.Vec.Iter.{into_iter_items}
use Rattle.history_core.specs.Responses.{answers_with}
use Rattle.history_core.proofs.response.put_rows.Given as goal

-- the answers so far, and those to the questions that are left
abbrev pub invariant-loop-question : goal.invariant-loop-question
invariant-loop-question l = record {
  room : vec_len l.answers + length l.question-iterator.rest.items ≤ vec_capacity l.answers;
  said : l.answers.items ++ answers_with l.at l.question-iterator.rest.items (into_iter_items l.lists)
      ≡ l.initial.answers.items ++ answers_with l.at l.fn.questions.items l.fn.rows.items;
}

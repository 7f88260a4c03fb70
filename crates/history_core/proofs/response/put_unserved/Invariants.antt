use Rattle.std.proofs.Common.{◌≡◌, ◌+◌, ◌≤◌, ◌++◌, length, map, vec_len, vec_capacity}
use Rattle.ssb_answers.specs.declared.answer.Answer.TheVariants.{Unserved}
use Rattle.history_core.proofs.response.put_unserved.Given as goal

abbrev pub invariant-loop-question : goal.invariant-loop-question
invariant-loop-question l = record {
  room : vec_len l.answers + length l.question-iterator.rest.items ≤ vec_capacity l.answers;
  said : l.answers.items ≡ l.initial.answers.items ++ map (λ question. Unserved question l.cause) l.yielded;
}

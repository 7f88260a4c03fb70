use Rattle.std.proofs.Common.{◌≡◌, ℕ, ◌<◌, ◌≤◌, get_or}
use Rattle.ssb_answers.specs.declared.answer.Answer.{Answer}
use Rattle.stream_sessions.specs.WithPast.{answer_with_past}
use Rattle.stream_sessions.proofs.with_past.add_past_to_all.Given as goal

-- the first answers are told with what came before, and the others are left
abbrev pub invariant-loop-answer : goal.invariant-loop-answer
invariant-loop-answer l = record {
  done : (k : ℕ) (t : Answer) → k < l.answer-index
      → get_or l.answers k t ≡ answer_with_past l.past.commits (get_or l.fn.answers k t);
  left : (k : ℕ) (t : Answer) → l.answer-index ≤ k → get_or l.answers k t ≡ get_or l.fn.answers k t;
}

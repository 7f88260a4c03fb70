use Rattle.std.proofs.Common.{◌≡◌, List, length, arith}
use Rattle.ssb_answers.specs.declared.answer.Answer.{Answer}
use Rattle.stream_sessions.specs.WithPast.{answer_with_past}
use Rattle.stream_sessions.proofs.PastLaws.{mapped_all}
use Rattle.stream_sessions.proofs.with_past.add_past_to_all.Goals as goal

pub returns : goal.returns
returns c =
    let old : List Answer = c.args.answers.now in
    let new : List Answer = c.loop-answer.answers in
    let count : c.loop-answer.answer-index ≡ length old = omega arith in
    mapped_all (answer_with_past c.args.past.commits) old new (omega arith)
    (λ k t below. c.loop-answer.invariant.done k t (omega (arith, below, count)))

use Rattle.std.proofs.Common.{◌≡◌, ◌++◌, ◌∙◌, length, ap, arith}
use Rattle.history_core.specs.Responses.{answers_in}
use Rattle.stream_sessions.proofs.RequestLaws.{answered, asked_same}
use Rattle.stream_sessions.proofs.reply.answers_to.Goals as goal

pub put_answers-requires : goal.put_answers-requires
put_answers-requires g c =
    let same = asked_same _ _ _ _ _ c.ask.ensures.asked c.await_answer-response.ensures.polled in
    omega (
      arith,
      ap length same,
      c.len.ensures,
      c.in_ok-answers.ensures.capacity,
      c.in_ok-answers.ensures.len,
    )

pub returns-clause-answered : goal.returns-clause-answered
returns-clause-answered g c =
    let are : c.put_answers.new.answers.items ≡ answers_in c.await_answer-response.result =
    c.put_answers.ensures ∙ ap (λ l. l ++ answers_in c.await_answer-response.result)
    c.in_ok-answers.ensures.items in
    answered _ _ _ _ _ _ c.ask.ensures.asked c.soundness.ensures c.await_answer-response.ensures.polled
    c.soundness-2.ensures are

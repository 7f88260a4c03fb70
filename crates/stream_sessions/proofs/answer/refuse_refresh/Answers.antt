use Rattle.stream_sessions.proofs.AnswerLaws.{adds_read_only}
use Rattle.stream_sessions.proofs.answer.refuse_refresh.Goals as goal

pub returns-in-Ok : goal.returns-in-Ok
returns-in-Ok c = λ number request asked client spelled has none.
    adds_read_only number request asked client c.args.manner _ _ spelled has none c.in-Ok.ensures

use Rattle.stream_sessions.proofs.PastLaws.{served_is_of_few}
use Rattle.stream_sessions.proofs.answer.add_reply.Goals as goal

pub with_past-told-requires : goal.with_past-told-requires
with_past-told-requires g c = served_is_of_few _ _ _ _ _ c.in-Ok.ensures.served

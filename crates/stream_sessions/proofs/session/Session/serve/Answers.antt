use Rattle.stream_sessions.proofs.EndLaws.{broken_in_vain, broken_is_left, served_in_vain, served_is_left}
use Rattle.stream_sessions.proofs.session.Session.serve.Goals as goal

pub returns-in-Ok-hand_on : goal.returns-in-Ok-hand_on
returns-in-Ok-hand_on g c = served_is_left c.in-Ok.served _ _ _ c.in-Ok.ensures c.in-Ok-hand_on.ensures.handed

pub returns-in-Err-hand_on : goal.returns-in-Err-hand_on
returns-in-Err-hand_on g c =
    served_in_vain c.in-Err-hand_on.fault c.in-Ok.served _ _ _ c.in-Ok.ensures c.in-Err-hand_on.ensures.handed

pub returns-in-Ok-hand_on-2 : goal.returns-in-Ok-hand_on-2
returns-in-Ok-hand_on-2 g c =
    broken_is_left c.in-Err.error _ _ _ c.in_default.not-Write c.in-Err.ensures c.in-Ok-hand_on-2.ensures.handed

pub returns-in-Err-hand_on-2 : goal.returns-in-Err-hand_on-2
returns-in-Err-hand_on-2 g c =
    broken_in_vain c.in-Err-hand_on-2.fault c.in-Err.error _ _ _ c.in_default.not-Write c.in-Err.ensures
    c.in-Err-hand_on-2.ensures.handed

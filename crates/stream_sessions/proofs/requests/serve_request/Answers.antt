use Rattle.std.proofs.Common.{arith}
use Rattle.std.specs.Prelude.{vec_len, vec_capacity}
use Rattle.stream_sessions.proofs.RequestLaws.{few_replies, room_for}
use Rattle.stream_sessions.proofs.requests.serve_request.Goals as goal

pub keep_reply-requires : goal.keep_reply-requires
keep_reply-requires g c =
    let few = few_replies _ _ _ _ _ c.in-Ok-reply_to.ensures.served in
    room_for c.make_room.new.told (λ kept. vec_len kept) (λ kept. vec_capacity kept) _ _
    (omega (arith, few, c.question_count.ensures)) c.in-Ok.ensures.room

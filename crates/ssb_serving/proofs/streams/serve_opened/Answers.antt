use Rattle.ssb_serving.proofs.StreamLaws.{seats_ask_nothing, are_spoken}
use Rattle.ssb_serving.proofs.streams.serve_opened.Goals as goal

pub run_threads-requires-clause-seats : goal.run_threads-requires-clause-seats
run_threads-requires-clause-seats g c κs within =
    seats_ask_nothing c.args.service.now.server.now _ c.in_ok-seats.seats.items (λ seat. seat.client)
    c.in_ok-seats.ensures.clients c.requires.clients

pub returns-clause-served : goal.returns-clause-served
returns-clause-served g c =
    are_spoken g.S.Speaker.spoken c.args.speakers.items c.args.clients.items c.in_ok-seats.seats.items
    c.in_ok-ended.ended.spoken.items (λ seat. seat.client) (λ seat. seat.speaker) (λ one. one.client)
    (λ one. one.left) c.in_ok-seats.ensures.clients c.in_ok-seats.ensures.speakers c.in_ok-ended.ensures.spoken

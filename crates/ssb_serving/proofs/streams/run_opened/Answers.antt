use Rattle.std.proofs.Common.{◌≡◌, length, ap, sym, subst, ◌∙◌, arith}
use Rattle.std.specs.Prelude.{All}
use Rattle.std.proofs.lemmas.List.FromFn.{length-map-range_with_len}
use Rattle.ssb_clients.specs.Tickets.{IsOf}
use Rattle.ssb_serving.proofs.MemberLaws.{new_dispatchers_of}
use Rattle.ssb_serving.specs.Members.{AreStill}
use Rattle.ssb_serving.proofs.StreamLaws.{seats_quiet, seats_ready, stream_where}
use Rattle.ssb_serving.proofs.streams.run_opened.Goals as goal

pub seats_of-requires : goal.seats_of-requires
seats_of-requires g c =
    let clients = c.args.opened.clients in
    let each : length clients.items ≡ c.args.opened.server.clients =
    ap length c.requires.clients ∙ length-map-range_with_len _ 1 c.args.opened.server.clients in
    omega (arith, clients.ok.0, clients.ok.1, each, c.requires.speakers)

pub run_threads-requires-clause-seats : goal.run_threads-requires-clause-seats
run_threads-requires-clause-seats g c κs within =
    seats_quiet c.args.opened.server c.in_ok-seats.seats.items (λ seat. seat.client)
    (c.in_ok-seats.ensures.clients ∙ c.requires.clients)

pub run_threads-requires-clause-dispatchers : goal.run_threads-requires-clause-dispatchers
run_threads-requires-clause-dispatchers g c κs within =
    subst (All (IsOf c.args.opened.server)) (sym c.requires.dispatchers) (new_dispatchers_of c.args.opened.server)

pub close_run-requires : goal.close_run-requires
close_run-requires g c =
    seats_ready g.S.Speaker.spoken c.args.opened.server c.in_ok-seats.seats.items c.in_ok-ended.ended.spoken.items
    (λ seat. seat.client) (λ seat. seat.speaker) (λ one. one.client) (λ one. one.left)
    c.args.opened.dispatchers.items c.in_ok-ended.ended.dispatchers.items
    (c.in_ok-seats.ensures.clients ∙ c.requires.clients) c.in_ok-ended.ensures.spoken c.requires.dispatchers
    c.in_ok-ended.ensures.dispatchers

pub returns : goal.returns
returns g c =
    stream_where g.S.Speaker.spoken c.close_run.result (λ run. run.left.items) (λ run. run.log)
    c.args.opened.server c.args.speakers.items c.in_ok-seats.seats.items c.in_ok-ended.ended.spoken.items
    (λ seat. seat.client) (λ seat. seat.speaker) (λ one. one.client) (λ one. one.left)
    c.in_ok-ended.ended.dispatchers.items (omega (arith, c.requires.speakers, c.args.speakers.ok.0, c.args.speakers.ok.1))
    (c.in_ok-seats.ensures.clients ∙ c.requires.clients) c.in_ok-seats.ensures.speakers c.in_ok-ended.ensures.spoken
    (subst (λ tokens. AreStill tokens c.in_ok-ended.ended.dispatchers.items) c.requires.dispatchers
    c.in_ok-ended.ensures.dispatchers) c.close_run.ensures.closed c.close_run.ensures.left

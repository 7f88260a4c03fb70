use Rattle.std.proofs.Common.{rules, length, ap, sym, subst, ◌∙◌, arith, append-nil}
use Rattle.std.specs.Prelude.{All}
use Rattle.std.proofs.lemmas.List.{map-id}
use Rattle.std.proofs.lemmas.List.Elements.{All-tail}
use Rattle.std.proofs.lemmas.Iterator.Adapters.{YieldsList-from_vec}
use Rattle.std.proofs.lemmas.Iterator.Consumers.{YieldsList-end}
use Rattle.ssb_serving.proofs.ListLaws.{map_push, to_the_end}
use Rattle.ssb_clients.specs.Tickets.{IsQuiet}
use Rattle.ssb_serving.proofs.clients.start_clients.Goals as goal

pub loop-seat-init : goal.loop-seat-init
loop-seat-init g c =
    let gives = c.into_iter-seat-iterator.ensures.into_iter_gives in record {
      seats = subst (All (λ seat. IsQuiet c.args.server.now (g.T.Leaves.client seat))) (sym gives.0) c.requires.seats;
      count = omega (arith, gives.1, ap length gives.0);
      capacity = search rules;
      started = sym (append-nil _);
    }

pub loop-seat-preserved : goal.loop-seat-preserved
loop-seat-preserved g c =
    let at : g.row.T.Denot → Type 0 = λ seat. IsQuiet c.args.server.now (g.T.Leaves.client seat) in
    let inv = c.loop-seat.invariant in
    let rest = c.next.new.self.rest.items in record {
      seats = All-tail at c.in-Some.seat rest (subst (All at) c.in-Some.ensures.steps.0 inv.seats);
      count = omega (arith, inv.count, c.push_reserved.ensures.len, ap length c.in-Some.ensures.steps.0);
      capacity = c.push_reserved.ensures.capacity ∙ inv.capacity;
      started = map_push _ _ _ _ _ _ _ inv.started c.push_reserved.ensures.items c.in_ok-thread.ensures;
    }

pub returns-in_err-thread-clause-room : goal.returns-in_err-thread-clause-room
returns-in_err-thread-clause-room g c =
    let inv = c.loop-seat.invariant in (omega (arith, inv.count), inv.capacity)

pub push_reserved-requires : goal.push_reserved-requires
push_reserved-requires g c =
    let inv = c.loop-seat.invariant in omega (
      arith,
      inv.count,
      inv.capacity,
      c.requires.room,
      ap length c.in-Some.ensures.steps.0,
    )

pub returns-clause-room : goal.returns-clause-room
returns-clause-room g c =
    let inv = c.loop-seat.invariant in (omega (arith, inv.count), inv.capacity)

pub returns-clause-started : goal.returns-clause-started
returns-clause-started g c =
    let gives = c.into_iter-seat-iterator.ensures.into_iter_gives in
    let all = YieldsList-from_vec c.args.seats.items gives.0 (omega (arith, gives.1)) in
    let end = YieldsList-end all c.loop-seat.yielded c.loop-seat.seat-iterator c.loop-seat.yielded_by c.next.result
    c.next.new.self c.in-None.is c.next.ensures.steps in
    to_the_end _ _ c.loop-seat.yielded c.args.seats.items c.loop-seat.invariant.started
    (sym (map-id c.loop-seat.yielded) ∙ end.0)

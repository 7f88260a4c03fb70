use Rattle.std.proofs.Common.{rules, length, ap, sym, subst, ◌∙◌, arith, append-nil}
use Rattle.std.specs.Prelude.{All}
use Rattle.std.proofs.lemmas.List.{map-id}
use Rattle.std.proofs.lemmas.List.Elements.{All-tail}
use Rattle.std.proofs.lemmas.Iterator.Adapters.{YieldsList-from_vec}
use Rattle.std.proofs.lemmas.Iterator.Consumers.{YieldsList-end}
use Rattle.ssb_serving.proofs.ListLaws.{map_push, to_the_end}
use Rattle.ssb_clients.specs.Tickets.{IsOf}
use Rattle.ssb_serving.proofs.dispatchers.start_dispatchers.Goals as goal

pub loop-dispatcher-init : goal.loop-dispatcher-init
loop-dispatcher-init g c =
    let gives = c.into_iter-dispatcher-iterator.ensures.into_iter_gives in record {
      tasks = subst (All (IsOf c.args.server.now)) (sym gives.0) c.requires.dispatchers;
      count = omega (arith, gives.1, ap length gives.0);
      capacity = search rules;
      started = sym (append-nil _);
    }

pub loop-dispatcher-preserved : goal.loop-dispatcher-preserved
loop-dispatcher-preserved g c =
    let at = IsOf c.args.server.now in
    let inv = c.loop-dispatcher.invariant in
    let rest = c.next.new.self.rest.items in record {
      tasks = All-tail at c.in-Some.dispatcher rest (subst (All at) c.in-Some.ensures.steps.0 inv.tasks);
      count = omega (arith, inv.count, c.push_reserved.ensures.len, ap length c.in-Some.ensures.steps.0);
      capacity = c.push_reserved.ensures.capacity ∙ inv.capacity;
      started = map_push _ _ _ _ _ _ _ inv.started c.push_reserved.ensures.items c.in_ok-thread.ensures;
    }

pub returns-in_err-thread-clause-room : goal.returns-in_err-thread-clause-room
returns-in_err-thread-clause-room g c =
    let inv = c.loop-dispatcher.invariant in (omega (arith, inv.count), inv.capacity)

pub push_reserved-requires : goal.push_reserved-requires
push_reserved-requires g c =
    let inv = c.loop-dispatcher.invariant in omega (
      arith,
      inv.count,
      inv.capacity,
      c.requires.room,
      ap length c.in-Some.ensures.steps.0,
    )

pub returns-clause-room : goal.returns-clause-room
returns-clause-room g c =
    let inv = c.loop-dispatcher.invariant in (omega (arith, inv.count), inv.capacity)

pub returns-clause-started : goal.returns-clause-started
returns-clause-started g c =
    let gives = c.into_iter-dispatcher-iterator.ensures.into_iter_gives in
    let all = YieldsList-from_vec c.args.dispatchers.items gives.0 (omega (arith, gives.1)) in
    let end = YieldsList-end all c.loop-dispatcher.yielded c.loop-dispatcher.dispatcher-iterator
    c.loop-dispatcher.yielded_by c.next.result c.next.new.self c.in-None.is c.next.ensures.steps in
    to_the_end _ _ c.loop-dispatcher.yielded c.args.dispatchers.items c.loop-dispatcher.invariant.started
    (sym (map-id c.loop-dispatcher.yielded) ∙ end.0)

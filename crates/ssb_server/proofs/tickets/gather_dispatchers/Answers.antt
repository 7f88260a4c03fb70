use Rattle.std.proofs.Common.{◌++◌, [], ◌∷◌, ap, sym, ◌∙◌, arith, append_assoc}
use Rattle.std.proofs.lemmas.Iterator.Adapters.{YieldsList-from_vec}
use Rattle.std.proofs.lemmas.Iterator.Consumers.{YieldsList-end}
use Rattle.std.proofs.lemmas.List.{length_push, map-id}
use Rattle.std.proofs.lemmas.List.Elements.{All-push}
use Rattle.ssb_clients.specs.Tickets.{IsLeft}
use Rattle.ssb_server.proofs.tickets.gather_dispatchers.Goals as goal

pub loop-dispatcher-preserved : goal.loop-dispatcher-preserved
loop-dispatcher-preserved g c = record {
  items = c.push_reserved.ensures.items ∙ (ap (λ t. c.loop-dispatcher.tokens.items ++ t ∷ []) c.into_token.ensures.token
      ∙ (ap (λ xs. xs ++ c.in-Some.dispatcher ∷ []) c.loop-dispatcher.invariant.items
      ∙ append_assoc c.args.tokens.now.items c.loop-dispatcher.yielded (c.in-Some.dispatcher ∷ [])));
  len = omega (
    arith,
    length_push c.loop-dispatcher.yielded c.in-Some.dispatcher,
    c.push_reserved.ensures.len,
    c.loop-dispatcher.invariant.len,
  );
  capacity = c.push_reserved.ensures.capacity ∙ c.loop-dispatcher.invariant.capacity;
  left = All-push IsLeft c.loop-dispatcher.yielded c.in-Some.dispatcher c.loop-dispatcher.invariant.left
      c.into_token.ensures.left;
}

pub returns-clause-items : goal.returns-clause-items
returns-clause-items g c =
    let gives = c.into_iter-dispatcher-iterator.ensures.into_iter_gives in
    let all = YieldsList-from_vec c.args.dispatchers.items gives.0 (omega (arith, gives.1)) in
    let end = YieldsList-end all c.loop-dispatcher.yielded c.loop-dispatcher.dispatcher-iterator
    c.loop-dispatcher.yielded_by c.next.result c.next.new.self c.in-None.is c.next.ensures.steps in
    c.loop-dispatcher.invariant.items ∙ ap (λ ys. c.args.tokens.now.items ++ ys)
    (sym (map-id c.loop-dispatcher.yielded) ∙ end.0)

use Rattle.std.proofs.Common.{◌++◌, [], ◌∷◌, ap, sym, ◌∙◌, arith, append_assoc}
use Rattle.std.proofs.lemmas.Iterator.Adapters.{YieldsList-from_vec}
use Rattle.std.proofs.lemmas.Iterator.Consumers.{YieldsList-end}
use Rattle.std.proofs.lemmas.List.{length_push, map-id}
use Rattle.std.proofs.lemmas.List.Elements.{All-push}
use Rattle.ssb_clients.specs.Tickets.{IsResting}
use Rattle.ssb_clients.proofs.tickets.gather_clients.Goals as goal

pub loop-client-preserved : goal.loop-client-preserved
loop-client-preserved g c = record {
  items = c.push_reserved.ensures.items ∙ (ap (λ t. c.loop-client.tokens.items ++ t ∷ []) c.into_token.ensures.token
      ∙ (ap (λ xs. xs ++ c.in-Some.client ∷ []) c.loop-client.invariant.items
      ∙ append_assoc c.args.tokens.now.items c.loop-client.yielded (c.in-Some.client ∷ [])));
  len = omega (
    arith,
    length_push c.loop-client.yielded c.in-Some.client,
    c.push_reserved.ensures.len,
    c.loop-client.invariant.len,
  );
  capacity = c.push_reserved.ensures.capacity ∙ c.loop-client.invariant.capacity;
  rest = All-push IsResting c.loop-client.yielded c.in-Some.client c.loop-client.invariant.rest
      c.into_token.ensures.rest;
}

pub returns-clause-items : goal.returns-clause-items
returns-clause-items g c =
    let gives = c.into_iter-client-iterator.ensures.into_iter_gives in
    let all = YieldsList-from_vec c.args.clients.items gives.0 (omega (arith, gives.1)) in
    let end = YieldsList-end all c.loop-client.yielded c.loop-client.client-iterator c.loop-client.yielded_by
    c.next.result c.next.new.self c.in-None.is c.next.ensures.steps in
    c.loop-client.invariant.items ∙ ap (λ ys. c.args.tokens.now.items ++ ys)
    (sym (map-id c.loop-client.yielded) ∙ end.0)

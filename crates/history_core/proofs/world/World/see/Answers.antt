use Rattle.std.proofs.Common.{rules, ◌≡◌, length, ap, sym, ◌∙◌}
use Rattle.history_core.specs.View.{client_in, dispatcher_in}
use Rattle.history_core.specs.World.{World, seen_by}
use Rattle.history_core.proofs.ViewLaws.{take_all, clients_fit, dispatchers_fit, client_renewed, dispatcher_renewed}
use Rattle.history_core.proofs.ViewLaws.{no_client, no_dispatcher}
use Rattle.history_core.proofs.world.World.see.Goals as goal

pub invariant_of-self : goal.invariant_of-self
invariant_of-self c = let count : c.len-length.result ≡ length c.self.inside.store.log = search rules in record {
  base = c.self.invariant.base;
  commits = c.self.invariant.commits;
  clients =
      clients_fit c.self.inside c.self.invariant c.in-Client.number c.in-Some.place c.len.result c.in-Some.ensures.place
      (λ x. record x { seen = c.len-length.result }) c.index_mut.result.now c.index_mut.ensures.value (search rules)
      (λ n x h. (h.0, search rules));
  dispatchers = c.self.invariant.dispatchers;
}

pub returns-in-Some : goal.returns-in-Some
returns-in-Some c = let count : c.len-length.result ≡ length c.self.inside.store.log = search rules in
    client_renewed c.self.inside c.args.self.now c.self.view_is c.in-Client.number c.in-Some.place c.len.result
    (λ x. record x { seen = c.len-length.result }) (λ (w : World) x. record x { seen = w.history })
    c.index_mut.result.now
    (λ x. ap (λ l. record (client_in c.self.inside.store.log x) { seen = l })
    (take_all c.len-length.result c.self.inside.store.log count)) c.index_mut.ensures.value (search rules) c.in-Some.ensures.place
    ∙ ap (seen_by c.args.self.now) (sym c.in-Client.is)

pub returns-in_default : goal.returns-in_default
returns-in_default c =
    no_client c.self.inside c.args.self.now c.self.view_is c.in-Client.number c.len.result
    (λ x. record x { seen = c.args.self.now.history }) (search rules) c.in_default.ensures.place
    ∙ ap (seen_by c.args.self.now) (sym c.in-Client.is)

pub invariant_of-self-in-Some-place_of : goal.invariant_of-self-in-Some-place_of
invariant_of-self-in-Some-place_of c =
    let count : c.len-length.result ≡ length c.self.inside.store.log = search rules in record {
      base = c.self.invariant.base;
      commits = c.self.invariant.commits;
      clients = c.self.invariant.clients;
      dispatchers =
          dispatchers_fit c.self.inside c.self.invariant c.in-Dispatcher.number c.in-Some-place_of.place c.len-in-Dispatcher.result
          c.in-Some-place_of.ensures.place (λ x. record x { seen = c.len-length.result }) c.index_mut-in-Some-place_of.result.now
          c.index_mut-in-Some-place_of.ensures.value (search rules) (λ x h. (search rules, h.1, h.2));
    }

pub returns-in-Some-place_of : goal.returns-in-Some-place_of
returns-in-Some-place_of c = let count : c.len-length.result ≡ length c.self.inside.store.log = search rules in
    dispatcher_renewed c.self.inside c.args.self.now c.self.view_is c.in-Dispatcher.number c.in-Some-place_of.place c.len-in-Dispatcher.result
    (λ x. record x { seen = c.len-length.result }) (λ (w : World) x. record x { seen = w.history })
    c.index_mut-in-Some-place_of.result.now
    (λ x. ap (λ l. record (dispatcher_in c.self.inside.store.log x) { seen = l })
    (take_all c.len-length.result c.self.inside.store.log count)) c.index_mut-in-Some-place_of.ensures.value (search rules)
    c.in-Some-place_of.ensures.place
    ∙ ap (seen_by c.args.self.now) (sym c.in-Dispatcher.is)

pub returns-in_default-place_of : goal.returns-in_default-place_of
returns-in_default-place_of c =
    no_dispatcher c.self.inside c.args.self.now c.self.view_is c.in-Dispatcher.number c.len-in-Dispatcher.result
    (λ x. record x { seen = c.args.self.now.history }) (search rules) c.in_default-place_of.ensures.place
    ∙ ap (seen_by c.args.self.now) (sym c.in-Dispatcher.is)

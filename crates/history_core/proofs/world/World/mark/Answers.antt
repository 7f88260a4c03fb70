use Rattle.std.proofs.Common.{rules, ◌≡◌, Some, length}
use Rattle.history_core.specs.World.{World}
use Rattle.history_core.proofs.ViewLaws.{take_all, dispatchers_fit, dispatcher_renewed, no_dispatcher}
use Rattle.history_core.proofs.world.World.mark.Goals as goal

pub invariant_of-self : goal.invariant_of-self
invariant_of-self c = let count : c.len-length.result ≡ length c.self.inside.store.log = search rules in record {
  base = c.self.invariant.base;
  commits = c.self.invariant.commits;
  clients = c.self.invariant.clients;
  dispatchers =
      dispatchers_fit c.self.inside c.self.invariant c.args.number c.in-Some.place c.len.result c.in-Some.ensures.place
      (λ x. record x { seen = c.len-length.result; mark = Some c.len-length.result }) c.index_mut-dispatcher.result.now
      c.index_mut-dispatcher.ensures.value (search rules) (λ x h. (search rules, search rules, h.2));
}

pub returns-in-Some : goal.returns-in-Some
returns-in-Some c = let count : c.len-length.result ≡ length c.self.inside.store.log = search rules in
    dispatcher_renewed c.self.inside c.args.self.now c.self.view_is c.args.number c.in-Some.place c.len.result
    (λ x. record x { seen = c.len-length.result; mark = Some c.len-length.result })
    (λ (w : World) x. record x { seen = w.history; mark = Some (length w.history) }) c.index_mut-dispatcher.result.now
    (λ x i. record {
      seen = take_all c.len-length.result c.self.inside.store.log count i;
      mark = Some (count i);
      version = x.version;
      given = x.given;
    }) c.index_mut-dispatcher.ensures.value (search rules) c.in-Some.ensures.place

pub returns-in_default : goal.returns-in_default
returns-in_default c =
    no_dispatcher c.self.inside c.args.self.now c.self.view_is c.args.number c.len.result
    (λ x. record x { seen = c.args.self.now.history; mark = Some (length c.args.self.now.history) }) (search rules)
    c.in_default.ensures.place

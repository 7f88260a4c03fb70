use Rattle.std.proofs.Common.{rules, None, refl}
use Rattle.history_core.specs.World.{unmarked}
use Rattle.history_core.proofs.ViewLaws.{dispatchers_fit, dispatcher_renewed, no_dispatcher}
use Rattle.history_core.proofs.world.World.unmark.Goals as goal

pub invariant_of-self : goal.invariant_of-self
invariant_of-self c = record {
  base = c.self.invariant.base;
  commits = c.self.invariant.commits;
  clients = c.self.invariant.clients;
  dispatchers =
      dispatchers_fit c.self.inside c.self.invariant c.args.number c.in-Some.place c.len.result c.in-Some.ensures.place
      (λ x. record x { mark = None; version = None }) c.index_mut-dispatcher.result.now
      c.index_mut-dispatcher.ensures.value (search rules) (λ x h. (h.0, tt, tt));
}

pub returns-in-Some : goal.returns-in-Some
returns-in-Some c =
    dispatcher_renewed c.self.inside c.args.self.now c.self.view_is c.args.number c.in-Some.place c.len.result
    (λ x. record x { mark = None; version = None }) (λ _. unmarked) c.index_mut-dispatcher.result.now
    (λ x. refl) c.index_mut-dispatcher.ensures.value (search rules) c.in-Some.ensures.place

pub returns-in_default : goal.returns-in_default
returns-in_default c =
    no_dispatcher c.self.inside c.args.self.now c.self.view_is c.args.number c.len.result unmarked (search rules)
    c.in_default.ensures.place

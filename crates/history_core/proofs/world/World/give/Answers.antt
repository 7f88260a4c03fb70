use Rattle.std.proofs.Common.{rules, ◌++◌, ◌∷◌, [], refl}
use Rattle.history_core.specs.World.{gave}
use Rattle.history_core.proofs.ViewLaws.{dispatchers_fit, dispatcher_renewed, no_dispatcher}
use Rattle.history_core.proofs.world.World.give.Goals as goal

pub invariant_of-self : goal.invariant_of-self
invariant_of-self c = record {
  base = c.self.invariant.base;
  commits = c.self.invariant.commits;
  clients = c.self.invariant.clients;
  dispatchers =
      dispatchers_fit c.self.inside c.self.invariant c.args.number c.in-Some.place c.len.result c.in-Some.ensures.place
      (λ x. record x { given = c.push.new.self }) c.index_mut.result.now c.index_mut.ensures.value (search rules)
      (λ x h. h);
}

pub returns-in_ok-push-clause-gave : goal.returns-in_ok-push-clause-gave
returns-in_ok-push-clause-gave c =
    rw c.in_ok-push.ensures.pushed
    (dispatcher_renewed c.self.inside c.args.self.now c.self.view_is c.args.number c.in-Some.place c.len.result
    (λ x. record x { given = x.given ++ c.args.given ∷ [] })
    (λ _. gave c.args.given.client c.args.given.floor c.args.given.outcome) c.index_mut.result.now (λ x. refl)
    c.index_mut.ensures.value (search rules) c.in-Some.ensures.place)

pub returns-in_default-clause-gave : goal.returns-in_default-clause-gave
returns-in_default-clause-gave c =
    no_dispatcher c.self.inside c.args.self.now c.self.view_is c.args.number c.len.result
    (gave c.args.given.client c.args.given.floor c.args.given.outcome) (search rules) c.in_default.ensures.place

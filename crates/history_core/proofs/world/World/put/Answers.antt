use Rattle.std.proofs.Common.{rules, ◌≡◌, refl}
use Rattle.history_core.proofs.ViewLaws.{clients_fit, client_renewed, no_client}
use Rattle.history_core.proofs.world.World.put.Goals as goal

pub invariant_of-self : goal.invariant_of-self
invariant_of-self c = let placed : c.replace.new.dest ≡ c.args.mailbox = search rules in
    record {
      base = c.self.invariant.base;
      commits = c.self.invariant.commits;
      clients =
          clients_fit c.self.inside c.self.invariant c.args.number c.in-Some.place c.len.result c.in-Some.ensures.place
          (λ x. record x { mailbox = c.replace.new.dest }) c.index_mut.result.now c.index_mut.ensures.value (search rules)
          (λ n x h. h);
      dispatchers = c.self.invariant.dispatchers;
    }

pub returns-in-Some : goal.returns-in-Some
returns-in-Some c = let placed : c.replace.new.dest ≡ c.args.mailbox = search rules in
    rw placed
    (client_renewed c.self.inside c.args.self.now c.self.view_is c.args.number c.in-Some.place c.len.result
    (λ x. record x { mailbox = c.args.mailbox }) (λ _ x. record x { mailbox = c.args.mailbox }) c.index_mut.result.now
    (λ x. refl) c.index_mut.ensures.value (search rules) c.in-Some.ensures.place)

pub returns-in_default : goal.returns-in_default
returns-in_default c =
    no_client c.self.inside c.args.self.now c.self.view_is c.args.number c.len.result
    (λ x. record x { mailbox = c.args.mailbox }) (search rules) c.in_default.ensures.place

use Rattle.std.proofs.Common.{rules, ap, sym, ◌∙◌, refl}
use Rattle.std.specs.Option.{option_map}
use Rattle.history_core.specs.declared.client.WorldClient.{WorldClient}
use Rattle.history_core.specs.Mailboxes.{left_in, collected_of}
use Rattle.history_core.proofs.RenewalLaws.{numbered_read, numbered_nowhere}
use Rattle.history_core.proofs.ViewLaws.{clients_fit, client_renewed, no_client, mailbox_shown}
use Rattle.history_core.proofs.world.World.collect.Goals as goal

pub invariant_of-self : goal.invariant_of-self
invariant_of-self c = record {
  base = c.self.invariant.base;
  commits = c.self.invariant.commits;
  clients =
      clients_fit c.self.inside c.self.invariant c.args.client c.in-Some.place c.len.result c.in-Some.ensures.place
      (λ x. record x { mailbox = c.collect.new.self }) c.index_mut.result.now c.index_mut.ensures.value (search rules)
      (λ n x h. h);
  dispatchers = c.self.invariant.dispatchers;
}

pub returns-in-Some-clause-left : goal.returns-in-Some-clause-left
returns-in-Some-clause-left c =
    rw c.collect.ensures.left
    (client_renewed c.self.inside c.args.self.now c.self.view_is c.args.client c.in-Some.place c.len.result
    (λ x. record x { mailbox = left_in x.mailbox }) (λ _ x. record x { mailbox = left_in x.mailbox })
    c.index_mut.result.now (λ x. refl) c.index_mut.ensures.value (search rules) c.in-Some.ensures.place)

pub returns-in-Some-clause-reply : goal.returns-in-Some-clause-reply
returns-in-Some-clause-reply c =
    c.collect.ensures.reply
    ∙ ap collected_of
    (sym
    (mailbox_shown c.self.inside c.args.self.now c.self.view_is c.args.client
    ∙ ap (option_map (λ (x : WorldClient). x.mailbox))
    (numbered_read c.self.inside.clients.items c.args.client c.in-Some.place c.len.result c.index_mut.result.now
    c.index_mut.ensures.value (search rules) c.in-Some.ensures.place)))

pub returns-in-None-clause-left : goal.returns-in-None-clause-left
returns-in-None-clause-left c =
    no_client c.self.inside c.args.self.now c.self.view_is c.args.client c.len.result
    (λ x. record x { mailbox = left_in x.mailbox }) (search rules) c.in-None.ensures.place

pub returns-in-None-clause-reply : goal.returns-in-None-clause-reply
returns-in-None-clause-reply c =
    ap collected_of
    (sym
    (mailbox_shown c.self.inside c.args.self.now c.self.view_is c.args.client
    ∙ ap (option_map (λ (x : WorldClient). x.mailbox))
    (numbered_nowhere c.self.inside.clients.items c.args.client c.len.result (search rules)
    c.in-None.ensures.place)))

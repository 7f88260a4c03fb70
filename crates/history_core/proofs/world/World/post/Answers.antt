use Rattle.std.proofs.Common.{ap, sym, ◌∙◌}
use Rattle.history_core.specs.declared.event.EventReply.TheVariants.{Done}
use Rattle.history_core.specs.World.{World, asked, into_mailbox}
use Rattle.history_core.proofs.EffectLaws.{posts}
use Rattle.history_core.proofs.world.World.post.Goals as goal

pub returns-clause-stepped : goal.returns-clause-stepped
returns-clause-stepped c = posts c.args.self.now c.args.client c.args.questions.now c.in-Some.floor c.in-Some.ensures
    ∙ ap (λ (w : World). (w, Done))
    (ap (λ q. into_mailbox c.args.self.now c.args.client (asked q c.in-Some.floor)) (sym c.in_ok-questions.ensures)
    ∙ sym c.put.ensures)

use Rattle.std.proofs.Common.{Some, None, ap, sym, ◌∙◌}
use Rattle.history_core.specs.declared.event.EventReply.{EventReply}
use Rattle.history_core.specs.declared.event.Who.TheVariants.{Client}
use Rattle.row_store.specs.Refusals.{refusal_of}
use Rattle.history_core.specs.World.{World, putting_rows, seen_by}
use Rattle.history_core.proofs.EffectLaws.{commits}
use Rattle.history_core.proofs.world.World.put_refresh.Goals as goal

pub returns-clause-stepped : goal.returns-clause-stepped
returns-clause-stepped c =
    (λ i. putting_rows c.args.self.now (Client c.args.client) (Some c.args.refresh.now.value)
    (sym c.if-not-knows.ensures i) (sym c.if-not-holds_rows.ensures i))
    ∙ commits c.args.self.now c.args.client c.args.refresh.now.value
    (refusal_of c.args.self.now.base c.args.self.now.history c.args.refresh.now.value)
    ∙ ap
    (λ (p : World × EventReply).
    (seen_by record p.0 { rows = None } (Client c.args.client), p.1)) c.in_ok-reply.ensures.applied
    ∙ ap (λ (w : World). (w, c.in_ok-reply.reply))
    (sym (c.see.ensures ∙ ap (λ (w : World). seen_by w (Client c.args.client)) c.hold_rows.ensures))

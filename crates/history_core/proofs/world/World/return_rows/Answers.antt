use Rattle.std.proofs.Common.{Some, length, ap, sym, ◌∙◌}
use Rattle.history_core.specs.declared.event.EventReply.TheVariants.{Done}
use Rattle.history_core.specs.World.{World, is_known, holds_rows, with_dispatcher}
use Rattle.history_core.proofs.EffectLaws.{returned}
use Rattle.history_core.proofs.world.World.return_rows.Goals as goal

pub returns-in-Dispatcher : goal.returns-in-Dispatcher
returns-in-Dispatcher c =
    returned c.args.self.now c.args.who c.in-Dispatcher.number (is_known c.args.self.now c.args.who)
    (holds_rows c.args.self.now.rows c.args.who) c.in-Dispatcher.is (sym c.if-not-knows.ensures)
    (sym c.if-not-holds_rows.ensures)
    ∙ ap (λ (w : World). (w, Done))
    (sym
    (c.mark.ensures
    ∙ ap
    (λ (w : World). with_dispatcher w c.in-Dispatcher.number
    (λ d. record d { seen = w.history; mark = Some (length w.history) })) c.hold_rows.ensures))

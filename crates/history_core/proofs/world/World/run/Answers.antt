use Rattle.std.proofs.Common.{rules, ◌∙◌, ◌+◌, ◌++◌, ◌∷◌, [], take, ap, sym, subst, refl, arith}
use Rattle.std.specs.Prelude.{map}
use Rattle.history_core.specs.Events.{event_of}
use Rattle.history_core.specs.World.{step_of}
use Rattle.history_core.specs.Runs.{HasRun}
use Rattle.history_core.proofs.RunningLaws.{run_next, true_at_end, true_before}
use Rattle.history_core.proofs.world.World.run.Goals as goal

pub returns-in_default-clause-true_stop : goal.returns-in_default-clause-true_stop
returns-in_default-clause-true_stop c =
    true_before c.args.self.now c.args.events.now c.len-in_default.result c.loop-event.event-index
    c.reserve.new.self.items c.loop-event.self c.step.new.self
    (c.len-in_default.ensures ∙ (c.reserve.ensures.len ∙ c.loop-event.invariant.len)) c.in_default.ensures.unchanged
    (subst (λ l. HasRun c.args.self.now (map event_of (take c.loop-event.event-index c.args.events.now)) l
    c.loop-event.self) (sym c.reserve.ensures.items) c.loop-event.invariant.ran)

pub returns-then-is_err-clause-true_stop : goal.returns-then-is_err-clause-true_stop
returns-then-is_err-clause-true_stop c =
    true_before c.args.self.now c.args.events.now c.len.result c.loop-event.event-index
    c.reserve.new.self.items c.loop-event.self c.loop-event.self
    (c.len.ensures ∙ (c.reserve.ensures.len ∙ c.loop-event.invariant.len)) refl
    (subst (λ l. HasRun c.args.self.now (map event_of (take c.loop-event.event-index c.args.events.now)) l
    c.loop-event.self) (sym c.reserve.ensures.items) c.loop-event.invariant.ran)

pub loop-event-preserved : goal.loop-event-preserved
loop-event-preserved c = record {
  ran =
      subst
      (λ l. HasRun c.args.self.now
      (map event_of (take (c.loop-event.event-index + 1) c.args.events.now)) l c.step.new.self)
      (sym (c.push_reserved.ensures.items ∙ ap (λ l. l ++ (c.in-Ok.reply ∷ [])) c.reserve.ensures.items))
      (run_next _ c.args.events.now c.loop-event.event-index c.loop-event.replies.items c.loop-event.self
      c.step.new.self c.in-Ok.reply c.event-item.result c.loop-event-test.true c.loop-event.invariant.ran
      (ap (λ e. step_of c.loop-event.self (event_of e)) (sym c.event-item.is) ∙ c.in-Ok.ensures.stepped));
  len = search rules;
}

pub returns-clause-true_run : goal.returns-clause-true_run
returns-clause-true_run c =
    let end = c.loop-event-test.false in
    true_at_end c.args.self.now c.args.events.now c.loop-event.event-index c.loop-event.replies.items c.loop-event.self
    (omega arith) c.loop-event.invariant.ran

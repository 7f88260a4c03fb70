use Rattle.std.proofs.Common.{ap, sym, ◌∙◌}
use Rattle.history_core.specs.Events.{event_of}
use Rattle.history_core.specs.World.{step_of}
use Rattle.history_core.proofs.EffectLaws.{collects}
use Rattle.history_core.proofs.world.World.step.Goals as goal

pub returns-in-Collect-clause-stepped : goal.returns-in-Collect-clause-stepped
returns-in-Collect-clause-stepped c =
    ap (λ e. step_of c.args.self.now (event_of e)) c.in-Collect.is ∙ collects c.args.self.now c.in-Collect.client
    ∙ λ i. (sym c.collect.ensures.left i, sym c.collect.ensures.reply i)

use Rattle.std.proofs.Common.{◌≡◌, ap, subst, ◌∙◌}
use Rattle.ssb_base.specs.Base.{IsSound}
use Rattle.history_core.specs.World.{World}
use Rattle.history_core.proofs.FewLaws.{few_lines}
use Rattle.history_core.proofs.world.World.rows_after.Goals as goal

pub evaluate-requires : goal.evaluate-requires
evaluate-requires c =
    let here : c.deref.result.now ≡ c.args.self.now.base =
    c.deref.ensures ∙ c.self.invariant.base ∙ ap (λ (w : World). w.base) c.self.view_is in
    few_lines c.args.self.now.base c.args.self.now.history c.args.at c.in_ok-lines.lines c.lines-2.result.now
    c.in_ok-lines.ensures.legal (subst IsSound here c.soundness.ensures) c.in_ok-lines.ensures.lines c.lines-2.ensures

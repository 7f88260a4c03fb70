use Rattle.std.proofs.Common.{◌≡◌, ◌++◌, ◌∷◌, [], sym, ◌∙◌}
use Rattle.history_core.specs.World.{commit_by}
use Rattle.history_core.specs.Applying.{applied}
use Rattle.history_core.proofs.GrownLaws.{grown_kept, applied_grown}
use Rattle.history_core.proofs.world.World.apply.Goals as goal

pub invariant_of-self-2 : goal.invariant_of-self-2
invariant_of-self-2 c =
    let same : c.in_ok-kept.kept.value ≡ c.in_ok-refresh.refresh.value = c.in_ok-kept.ensures in
    grown_kept c.self.inside c.apply.new.self c.push_reserved.new.self
    (commit_by c.args.client c.in_ok-refresh.refresh.value) c.in-Ok.ensures.log
    (c.push_reserved.ensures.items ∙ λ i. c.reserve.ensures.items i ++ commit_by c.args.client (same i) ∷ [])
    c.self.invariant

pub returns-clause-applied : goal.returns-clause-applied
returns-clause-applied c = (λ i. applied (sym c.self.view_is i) c.args.client (sym c.in_ok-refresh.ensures i))
    ∙ applied_grown c.self.inside c.apply.new.self c.args.client c.in_ok-refresh.refresh.value c.in-Ok.receipt.number
    c.self.invariant c.in-Ok.ensures.accepted c.in-Ok.ensures.log c.in-Ok.ensures.number

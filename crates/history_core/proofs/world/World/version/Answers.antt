use Rattle.std.proofs.Common.{rules, ◌≡◌, ◌≤◌, Some, length, subst}
use Rattle.std.specs.Prelude.{IfSome}
use Rattle.history_core.specs.Numbered.{numbered}
use Rattle.history_core.specs.World.{World}
use Rattle.history_core.proofs.ViewLaws.{within_some}
use Rattle.history_core.proofs.world.World.version.Goals as goal

pub returns-clause-within : goal.returns-clause-within
returns-clause-within c =
    let is : numbered c.self.inside.dispatchers.items c.args.number ≡ Some c.in_ok-find.field-0.now = search rules in
    subst (λ (w : World). IfSome c.in_ok-find.field-0.now.version (λ at. at ≤ length w.history)) c.self.view_is
    (within_some _ _ (c.self.invariant.dispatchers.own c.args.number c.in_ok-find.field-0.now is).2)

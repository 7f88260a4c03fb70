use Rattle.std.proofs.Common.{◌≡◌, [], ◌∷◌, replicate, Some, None}
use Rattle.history.specs.declared.view.SlotValue.TheVariants.{Writer}
use Rattle.history.specs.Rule.{rows}
use Rattle.history.proofs.shared_table.open.Given as goal

abbrev pub invariant-loop : goal.invariant-loop
invariant-loop g l = l.slots.items ≡ rows l.fn.opening.base.value [] ∷ Some (Writer l.fn.writer) ∷ replicate l.counter
    None

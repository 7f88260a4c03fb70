use Rattle.std.proofs.Common.{◌≡◌, ◌++◌, nat_eq, take}
use Rattle.std.specs.HashMap.{get}
use Rattle.export_command.specs.Standing.{left_of_added}
use Rattle.export_command.proofs.base_after.copy_added.Given as goal

abbrev pub invariant-loop-order : goal.invariant-loop-order
invariant-loop-order l =
    l.lines.items
    ≡ l.initial.lines.items ++ left_of_added (get nat_eq l.orders.numbers) (take l.order-index l.orders.added.items)

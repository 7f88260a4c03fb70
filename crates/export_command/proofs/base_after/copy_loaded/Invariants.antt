use Rattle.std.proofs.Common.{◌≡◌, ◌++◌, nat_eq, take}
use Rattle.std.specs.HashSet.{contains}
use Rattle.export_command.specs.Standing.{left_of_loaded}
use Rattle.export_command.proofs.base_after.copy_loaded.Given as goal

abbrev pub invariant-loop-line : goal.invariant-loop-line
invariant-loop-line l =
    l.lines.items ≡ l.initial.lines.items ++ left_of_loaded (contains nat_eq l.orders.gone) (take l.line-index l.loaded)

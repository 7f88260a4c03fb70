use Rattle.std.proofs.Common.{take}
use Rattle.std.specs.List.{AllByRecursion}
use Rattle.export_command.specs.After.{AddsOrder}
use Rattle.export_command.proofs.orders.all_add_orders.Given as goal

abbrev pub invariant-loop-action : goal.invariant-loop-action
invariant-loop-action l = AllByRecursion AddsOrder (take l.action-index l.actions)

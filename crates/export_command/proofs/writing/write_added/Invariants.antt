use Rattle.std.proofs.Common.{take, nat_eq}
use Rattle.std.specs.HashMap.{get}
use Rattle.export_command.specs.Standing.{left_of_added}
use Rattle.export_command.proofs.WritingLaws.{HasWritten}
use Rattle.export_command.proofs.writing.write_added.Given as goal

abbrev pub invariant-loop-order : goal.invariant-loop-order
invariant-loop-order g l =
    HasWritten (g.W.Write.contents l.fn.out) (g.W.Write.contents l.out)
    (left_of_added (get nat_eq l.orders.numbers) (take l.order-index l.orders.added.items))

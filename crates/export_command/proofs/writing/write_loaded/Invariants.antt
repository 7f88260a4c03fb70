use Rattle.std.proofs.Common.{take, nat_eq}
use Rattle.std.specs.HashSet.{contains}
use Rattle.export_command.specs.Standing.{left_of_loaded}
use Rattle.export_command.proofs.WritingLaws.{HasWritten}
use Rattle.export_command.proofs.writing.write_loaded.Given as goal

abbrev pub invariant-loop-line : goal.invariant-loop-line
invariant-loop-line g l =
    HasWritten (g.W.Write.contents l.fn.out) (g.W.Write.contents l.out)
    (left_of_loaded (contains nat_eq l.orders.gone) (take l.line-index l.lines))

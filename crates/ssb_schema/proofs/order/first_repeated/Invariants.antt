use Rattle.std.proofs.Common.{◌≡◌, [], drop, take}
use Rattle.ssb_schema.specs.FirstFault.{rows_fault}
use Rattle.ssb_schema.specs.Orders.{repeated_number}
use Rattle.ssb_schema.proofs.order.first_repeated.Given as goal

abbrev pub invariant-loop-i : goal.invariant-loop-i
invariant-loop-i l = rows_fault repeated_number (take l.i l.lines) (drop l.i l.lines)
    ≡ rows_fault repeated_number [] l.lines

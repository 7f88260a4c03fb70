use Rattle.std.proofs.Common.{length}
use Rattle.scan_kernel.specs.Parts.{places_of_parts}
use Rattle.scan_kernel.specs.Totals.{AreBatchTotals}
use Rattle.scan_kernel.proofs.parts.join_taken.Given as goal

abbrev pub invariant-loop-taker : goal.invariant-loop-taker
invariant-loop-taker l = AreBatchTotals l.input.lines.now l.input.masks.now l.input.groupings.now
    (places_of_parts (length l.input.lines.now.customer.now) l.parts.items) l.totals.items

use Rattle.std.proofs.Common.{length}
use Rattle.scan_kernel.specs.Parts.{places_of_parts}
use Rattle.scan_kernel.specs.Room.{HasRoom}
use Rattle.scan_kernel.specs.Zones.{chunk_size}
use Rattle.scan_kernel.specs.Totals.{AreBatchTotals, HaveSizes}
use Rattle.scan_kernel.proofs.taking.take_parts.Given as goal

abbrev pub invariant-loop-turn : goal.invariant-loop-turn
invariant-loop-turn l = record {
  room : HasRoom chunk_size l.room;
  sizes : HaveSizes l.input.groupings.now l.totals.items;
  totals : AreBatchTotals l.input.lines.now l.input.masks.now l.input.groupings.now (places_of_parts
      (length l.input.lines.now.customer.now) l.parts.items)
      l.totals.items;
}

use Rattle.std.proofs.Common.{◌-◌, ◌≤◌}
use Rattle.std.specs.List.{range_with_len}
use Rattle.scan_kernel.specs.Room.{HasRoom}
use Rattle.scan_kernel.specs.Zones.{chunk_size}
use Rattle.scan_kernel.specs.Totals.{AddsBatch, HaveSizes}
use Rattle.scan_kernel.proofs.range.add_range.Given as goal

abbrev pub decreases-loop-at : goal.decreases-loop-at
decreases-loop-at l = l.to - l.at

abbrev pub invariant-loop-at : goal.invariant-loop-at
invariant-loop-at l = record {
  order : l.initial.at ≤ l.at;
  within : l.at ≤ l.to;
  room : HasRoom chunk_size l.room;
  sizes : HaveSizes l.input.groupings.now l.totals;
  added : AddsBatch l.input.lines.now l.input.masks.now l.input.groupings.now
      (range_with_len l.initial.at (l.at - l.initial.at)) l.initial.totals l.totals;
}

use Rattle.std.proofs.Common.{◌≡◌, ◌%◌, ◌^◌, take}
use Rattle.std.specs.List.{sum_by}
use Rattle.scan_kernel.specs.Sparse.{wide_part_at}
use Rattle.scan_kernel.proofs.sparse.group_of.Given as goal

abbrev pub invariant-loop-column : goal.invariant-loop-column
invariant-loop-column l = l.number ≡ sum_by (wide_part_at l.place) (take l.column-index l.columns) % 2 ^ 128

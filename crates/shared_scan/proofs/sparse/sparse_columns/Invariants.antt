use Rattle.std.proofs.Common.{take}
use Rattle.scan_kernel.specs.Sparse.{as_group_columns}
use Rattle.shared_scan.specs.GroupColumns.{AreGroupColumns}
use Rattle.shared_scan.proofs.sparse.sparse_columns.Given as goal

abbrev pub invariant-loop-place : goal.invariant-loop-place
invariant-loop-place l = AreGroupColumns l.index l.lines (take l.place l.columns) (take l.place l.parts)
    (as_group_columns l.groups.items)

use Rattle.std.specs.List.{range_with_len}
use Rattle.scan_kernel.specs.Sparse.{as_group_columns, AreSparseTotals}
use Rattle.scan_kernel.specs.Totals.{taken}
use Rattle.scan_kernel.proofs.sparse.sparse_totals.Given as goal

abbrev pub invariant-loop-place : goal.invariant-loop-place
invariant-loop-place l = AreSparseTotals l.lines l.grouping.measure (as_group_columns l.grouping.columns.now)
    (taken l.lines l.masks l.number (range_with_len 0 l.place)) l.size l.totals

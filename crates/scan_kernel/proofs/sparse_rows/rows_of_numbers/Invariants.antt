use Rattle.std.proofs.Common.{◌≡◌, take}
use Rattle.scan_kernel.specs.Groups.{group_values}
use Rattle.scan_kernel.specs.SparseRows.{count_of, sum_of, sparse_rows}
use Rattle.scan_kernel.proofs.sparse_rows.rows_of_numbers.Given as goal

abbrev pub invariant-loop-at : goal.invariant-loop-at
invariant-loop-at l = l.rows.items ≡ sparse_rows (take l.at l.numbers) (group_values l.columns)
    (count_of l.numbers l.counts) (sum_of l.numbers l.sums)

use Rattle.std.proofs.Common.{◌≡◌}
use Rattle.std.specs.Prelude.{pos, slice_index, slice_index_or}
use Rattle.scan_kernel.specs.Groups.{group_values}
use Rattle.scan_kernel.specs.Dense.{dense_rows}
use Rattle.scan_kernel.proofs.rows.rows_by_number.Given as goal

abbrev pub invariant-loop-number : goal.invariant-loop-number
invariant-loop-number l = l.rows.items ≡ dense_rows l.number (group_values l.columns) (λ g. slice_index l.counts g)
    (λ g. slice_index_or l.sums g (pos 0))

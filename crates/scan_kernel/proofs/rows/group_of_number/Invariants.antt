use Rattle.scan_kernel.proofs.RowLaws.{ValuesUpTo}
use Rattle.scan_kernel.proofs.rows.group_of_number.Given as goal

abbrev pub invariant-loop-at : goal.invariant-loop-at
invariant-loop-at l = ValuesUpTo l.columns l.number l.at l.left l.group.items

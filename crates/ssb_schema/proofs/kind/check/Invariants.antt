use Rattle.std.proofs.Common.{◌≡◌, ◌+◌, drop, map}
use Rattle.ssb_schema.specs.Columns.{first_fault, row_fault, value_of}
use Rattle.ssb_schema.proofs.kind.check.Given as goal

-- the first fault of the columns that are left is that of the row
abbrev pub invariant-loop-i : goal.invariant-loop-i
invariant-loop-i l = first_fault l.table (l.i + 1) (drop l.i l.kinds) (drop l.i (map value_of l.cells))
    ≡ row_fault l.table (map value_of l.cells)

-- What a thread took.
use Rattle.std.specs.Prelude.{List, length, Result, IfOk}
use Rattle.std.specs.declared.alloc.AllocError.{AllocError}
use Rattle.scan_kernel.specs.declared.columns.LineColumns.{LineColumns}
use Rattle.scan_kernel.specs.declared.columns.Grouping.{Grouping}
use Rattle.scan_kernel.specs.declared.masks.Masks.{Masks}
use Rattle.scan_kernel.specs.declared.taking.Taken.{Taken}
use Rattle.scan_kernel.specs.Parts.{places_of_parts}
use Rattle.scan_kernel.specs.Totals.{AreBatchTotals}

-- the totals are those of the places of the parts that were taken
abbrev pub IsOfParts : LineColumns → Masks → List Grouping → Taken → Type 0
IsOfParts lines masks groupings taken = AreBatchTotals lines masks groupings
    (places_of_parts (length lines.customer.now) taken.parts.items) taken.totals.items

-- the same, where memory did not run out
abbrev pub IsOfPartsOk : LineColumns → Masks → List Grouping → Result Taken AllocError → Type 0
IsOfPartsOk lines masks groupings taken = IfOk taken (IsOfParts lines masks groupings)

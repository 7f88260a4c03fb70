use Rattle.std.proofs.Common.{◌≡◌, ◌++◌, map, take}
use Rattle.dimension_index.specs.Classes.{first_rows}
use Rattle.dimension_index.specs.Values.{values_of}
use Rattle.dimension_index.proofs.first_rows.push_coded.Given as goal

abbrev pub invariant-loop-column : goal.invariant-loop-column
invariant-loop-column l = l.kept.items ≡ l.initial.kept.items
    ++ map (values_of (first_rows l.base l.extents)) (take l.column-index l.columns)

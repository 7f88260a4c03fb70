use Rattle.std.proofs.Common.{◌≡◌, ◌++◌, map, take}
use Rattle.dimension_index.specs.Values.{values_of}
use Rattle.dimension_index.proofs.index.push_coded.Given as goal

abbrev pub invariant-loop-column : goal.invariant-loop-column
invariant-loop-column l = l.kept.items ≡ l.initial.kept.items ++ map (values_of l.base) (take l.column-index l.columns)

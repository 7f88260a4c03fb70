use Rattle.std.proofs.Common.{◌≡◌, map, take}
use Rattle.ssb_schema.specs.Columns.{column_name}
use Rattle.ssb_formats.proofs.cells.name_cells.Given as goal

abbrev pub invariant-loop-column : goal.invariant-loop-column
invariant-loop-column l = l.cells.items ≡ map column_name (take l.column-index l.columns)

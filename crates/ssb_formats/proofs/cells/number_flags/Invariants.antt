use Rattle.std.proofs.Common.{◌≡◌, map, take}
use Rattle.ssb_formats.specs.Cells.{takes_numbers}
use Rattle.ssb_formats.proofs.cells.number_flags.Given as goal

abbrev pub invariant-loop-column : goal.invariant-loop-column
invariant-loop-column l = l.flags.items ≡ map takes_numbers (take l.column-index l.columns)

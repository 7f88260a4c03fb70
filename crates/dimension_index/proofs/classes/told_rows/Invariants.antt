use Rattle.std.proofs.Common.{◌≡◌, map}
use Rattle.std.specs.List.{range_with_len}
use Rattle.dimension_index.specs.Told.{told_at}
use Rattle.dimension_index.proofs.classes.told_rows.Given as goal

abbrev pub invariant-loop-row : goal.invariant-loop-row
invariant-loop-row l = l.rows.items ≡ map (told_at l.first l.second l.third l.fourth) (range_with_len 0 l.row)

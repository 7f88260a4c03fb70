use Rattle.std.proofs.Common.{◌≡◌, map, take}
use Rattle.std.specs.List.{position}
use Rattle.std.specs.HashMap.{get}
use Rattle.dimension_index.specs.Told.{RowCodes, same_told, first_in}
use Rattle.dimension_index.proofs.classes.first_places.Given as goal

abbrev pub invariant-loop-row : goal.invariant-loop-row
invariant-loop-row l = record {
  firsts : l.places.items ≡ map (first_in l.rows) (take l.row l.rows);
  noted : (other : RowCodes) → get same_told l.seen other ≡ position (λ own. same_told own other) (take l.row l.rows);
}

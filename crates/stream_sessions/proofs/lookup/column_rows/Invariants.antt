use Rattle.std.proofs.Common.{◌≡◌, map, take}
use Rattle.stream_sessions.specs.Lookups.{column_row}
use Rattle.stream_sessions.proofs.lookup.column_rows.Given as goal

abbrev pub invariant-loop-column : goal.invariant-loop-column
invariant-loop-column l = l.rows.items ≡ map column_row (take l.column-index l.columns)

use Rattle.std.proofs.Common.{◌≡◌, map, take}
use Rattle.stream_sessions.specs.Lookups.{value_row}
use Rattle.stream_sessions.proofs.lookup.value_rows.Given as goal

abbrev pub invariant-loop-value : goal.invariant-loop-value
invariant-loop-value l = l.rows.items ≡ map value_row (take l.value-index l.values)

use Rattle.std.proofs.Common.{◌≡◌, map, take}
use Rattle.std.specs.String.{string_bytes}
use Rattle.ssb_explain.specs.Joins as spec
use Rattle.ssb_explain.proofs.joins.join_texts.Given as goal

abbrev pub invariant-loop-table : goal.invariant-loop-table
invariant-loop-table l = map string_bytes l.texts.items ≡ map spec.join_text (take l.table-index l.tables)

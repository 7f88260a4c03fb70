use Rattle.std.proofs.Common.{◌≡◌, filter, take}
use Rattle.ssb_explain.specs.Joins as spec
use Rattle.ssb_explain.specs.Names.{dimensions}
use Rattle.ssb_explain.proofs.nested.tested_tables.Given as goal

abbrev pub invariant-loop-table : goal.invariant-loop-table
invariant-loop-table l = l.tables.items ≡ filter (spec.is_tested l.plan) (take l.table-index dimensions)

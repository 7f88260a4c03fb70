use Rattle.std.proofs.Common.{◌≡◌, flat_map, map, take}
use Rattle.std.specs.String.{string_bytes}
use Rattle.ssb_explain.specs.Conditions as conditions
use Rattle.ssb_explain.specs.Joins as spec
use Rattle.ssb_explain.specs.Names.{dimensions}
use Rattle.ssb_explain.proofs.joins.plain_conditions.Given as goal

abbrev pub invariant-loop-table : goal.invariant-loop-table
invariant-loop-table l =
    map string_bytes l.found.items
    ≡ flat_map (λ t. conditions.conditions l.system (spec.tests_on l.plan t)) (take l.table-index dimensions)

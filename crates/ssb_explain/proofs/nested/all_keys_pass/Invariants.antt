use Rattle.std.proofs.Common.{◌≡◌, map, take}
use Rattle.std.specs.String.{string_bytes}
use Rattle.ssb_explain.specs.Joins as spec
use Rattle.ssb_explain.proofs.nested.all_keys_pass.Given as goal

abbrev pub invariant-loop-table : goal.invariant-loop-table
invariant-loop-table l =
    map string_bytes l.found.items ≡ map (spec.keys_pass l.system l.plan) (take l.table-index l.tables)

use Rattle.std.proofs.Common.{◌≡◌, ◌++◌, map, take}
use Rattle.std.specs.String.{string_bytes}
use Rattle.ssb_explain.specs.Conditions as spec
use Rattle.ssb_explain.proofs.conditions.add_conditions.Given as goal

abbrev pub invariant-loop-test : goal.invariant-loop-test
invariant-loop-test l =
    map string_bytes l.found.items ≡ map string_bytes l.fn.found.items ++ spec.conditions l.system (take l.test-index l.tests)

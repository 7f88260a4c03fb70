use Rattle.std.proofs.Common.{◌≡◌, map, take}
use Rattle.std.specs.String.{string_bytes}
use Rattle.ssb_explain.specs.Statement as spec
use Rattle.ssb_explain.proofs.statement.keys.Given as goal

abbrev pub invariant-loop-key : goal.invariant-loop-key
invariant-loop-key l = map string_bytes l.keys.items ≡ map (spec.key_of l.system l.plan) (take l.key-index l.plan.order)

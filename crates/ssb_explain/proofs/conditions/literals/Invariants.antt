use Rattle.std.proofs.Common.{◌≡◌, map, take}
use Rattle.std.specs.String.{string_bytes}
use Rattle.ssb_explain.specs.Conditions as spec
use Rattle.ssb_explain.proofs.conditions.literals.Given as goal

abbrev pub invariant-loop-text : goal.invariant-loop-text
invariant-loop-text l = map string_bytes l.made.items ≡ map (spec.literal l.system) (take l.text-index l.texts)

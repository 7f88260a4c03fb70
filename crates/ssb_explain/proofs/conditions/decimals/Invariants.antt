use Rattle.std.proofs.Common.{◌≡◌, decimal, map, take}
use Rattle.std.specs.String.{string_bytes}
use Rattle.ssb_explain.proofs.conditions.decimals.Given as goal

abbrev pub invariant-loop-number : goal.invariant-loop-number
invariant-loop-number l = map string_bytes l.made.items ≡ map decimal (take l.number-index l.numbers)

use Rattle.std.proofs.Common.{◌≡◌, take}
use Rattle.shared_scan.proofs.parts.narrow.Given as goal

abbrev pub invariant-loop-number : goal.invariant-loop-number
invariant-loop-number l = l.same.items ≡ take l.number-index l.part

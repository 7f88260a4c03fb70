use Rattle.std.proofs.Common.{◌≡◌, take}
use Rattle.shared_scan.proofs.parts.narrow_all.Given as goal

abbrev pub invariant-loop-part : goal.invariant-loop-part
invariant-loop-part l = l.same.items ≡ take l.part-index l.parts

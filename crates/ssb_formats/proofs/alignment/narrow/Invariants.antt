use Rattle.std.proofs.Common.{◌≡◌, map, take}
use Rattle.ssb_formats.specs.Alignment.{narrow}
use Rattle.ssb_formats.proofs.alignment.narrow.Given as goal

abbrev pub invariant-loop-is_number : goal.invariant-loop-is_number
invariant-loop-is_number l = l.all.items ≡ map narrow (take l.is_number-index l.are_numbers)

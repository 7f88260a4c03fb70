use Rattle.std.proofs.Common.{◌≡◌, take}
use Rattle.ssb_sql.specs.Said.{groups_said}
use Rattle.ssb_sql.proofs.building.groups_in.Given as goal

abbrev pub invariant-loop-number : goal.invariant-loop-number
invariant-loop-number l = l.groups.items ≡ groups_said (take l.number l.pieces)

use Rattle.std.proofs.Common.{◌≡◌, ◌-◌, ◌<◌, ◌^◌, length}
use Rattle.ship_command.specs.Taken.{IsLeavingOut}
use Rattle.ship_command.proofs.taking.ShippedFile.leave_out.Given as goal

abbrev pub invariant-loop-next : goal.invariant-loop-next
invariant-loop-next g l = record {
  out : IsLeavingOut l.past l.after l.fn.self.followed.groups l.self.followed.groups l.commits;
  some : 0 < length l.self.followed.groups;
  known : g.F.GrowingFile.holds l.self.followed.file ≡ g.F.GrowingFile.holds l.fn.self.followed.file;
}

abbrev pub decreases-loop-next : goal.decreases-loop-next
decreases-loop-next g l = 2 ^ 60 - length l.self.followed.groups

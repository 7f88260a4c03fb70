use Rattle.std.proofs.Common.{◌≡◌, ◌-◌, ◌<◌, ◌^◌, ℕ, List, Option, length}
use Rattle.ship_command.specs.Stream.{Ships}
use Rattle.ship_command.specs.Taken.{HaveGrown}
use Rattle.ship_command.proofs.shipping.send_new.Given as goal

abbrev pub invariant-loop-next : goal.invariant-loop-next
invariant-loop-next g l = record {
  some : 0 < length l.file.followed.groups;
  ships : (past after : ℕ) (first : Option (List ℕ))
      → Ships past after l.fn.file.followed.groups first (g.W.Write.contents l.fn.out)
      → Ships past after l.file.followed.groups first (g.W.Write.contents l.out);
  grown : HaveGrown l.fn.file.followed.groups l.file.followed.groups;
  known : g.F.GrowingFile.holds l.file.followed.file ≡ g.F.GrowingFile.holds l.fn.file.followed.file;
}

abbrev pub decreases-loop-next : goal.decreases-loop-next
decreases-loop-next g l = 2 ^ 60 - length l.file.followed.groups

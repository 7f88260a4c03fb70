use Rattle.std.proofs.Common.{◌≡◌, ◌<◌, ℕ, List, Option, length}
use Rattle.journal.specs.Groups.{recovered}
use Rattle.ship_command.specs.Stream.{Ships}
use Rattle.ship_command.proofs.shipping.send_as_they_come.Given as goal

abbrev pub invariant-loop : goal.invariant-loop
invariant-loop g l = record {
  some : 0 < length l.file.followed.groups;
  all : recovered (g.F.GrowingFile.seen l.file.followed.file) ≡ l.file.followed.groups;
  ended : g.F.GrowingFile.is_ended l.file.followed.file;
  ships : (past after : ℕ) (first : Option (List ℕ))
      → Ships past after l.fn.file.followed.groups first (g.W.Write.contents l.fn.out)
      → Ships past after l.file.followed.groups first (g.W.Write.contents l.out);
  known : g.F.GrowingFile.holds l.file.followed.file ≡ g.F.GrowingFile.holds l.fn.file.followed.file;
}

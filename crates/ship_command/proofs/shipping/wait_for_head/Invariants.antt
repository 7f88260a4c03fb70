use Rattle.std.proofs.Common.{◌≡◌, []}
use Rattle.ship_command.proofs.shipping.wait_for_head.Given as goal

abbrev pub invariant-loop : goal.invariant-loop
invariant-loop g l = record {
  none : l.file.followed.groups ≡ [];
  known : g.F.GrowingFile.holds l.file.followed.file ≡ g.F.GrowingFile.holds l.fn.file.followed.file;
}

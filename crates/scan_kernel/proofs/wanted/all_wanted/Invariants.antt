use Rattle.std.proofs.Common.{◌≡◌, length}
use Rattle.scan_kernel.specs.Wanted.{AreWantedUpTo}
use Rattle.scan_kernel.proofs.wanted.all_wanted.Given as goal

abbrev pub invariant-loop-question : goal.invariant-loop-question
invariant-loop-question l = record {
  long : length l.all.items ≡ l.question;
  each : AreWantedUpTo l.lines l.masks l.question l.all.items;
}

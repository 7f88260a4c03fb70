use Rattle.std.proofs.Common.{◌≡◌, ◌-◌, ◌+◌, ◌^◌, true, List, ℕ, length, if◌then◌else◌}
use Rattle.journal.proofs.followed.Followed.next_group.Given as goal

abbrev pub invariant-loop-group : goal.invariant-loop-group
invariant-loop-group g l = record {
  groups : l.self.groups ≡ l.fn.self.groups;
  ended : l.is_ended ≡ true → g.F.GrowingFile.is_ended l.self.file;
  crash : (c : List ℕ) → g.F.GrowingFile.may_leave l.self.file c → g.F.GrowingFile.may_leave l.fn.self.file c;
  known : g.F.GrowingFile.holds l.self.file ≡ g.F.GrowingFile.holds l.fn.self.file;
}

abbrev pub decreases-loop-group : goal.decreases-loop-group
decreases-loop-group g l = if l.is_ended then 0 else (1 + (2 ^ 64 - length l.self.rest))

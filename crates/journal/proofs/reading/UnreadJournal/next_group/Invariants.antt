use Rattle.std.proofs.Common.{◌≡◌, ◌-◌, ◌^◌, ◌≤◌, false, length}
use Rattle.journal.proofs.reading.UnreadJournal.next_group.Given as goal

abbrev pub invariant-loop-group : goal.invariant-loop-group
invariant-loop-group g l = record {
  going : l.self.is_done ≡ false;
  groups : l.self.groups ≡ l.fn.self.groups;
  known : g.U.UnreadDisk.holds l.self.unread ≡ g.U.UnreadDisk.holds l.fn.self.unread;
  later : g.U.UnreadDisk.faults l.fn.self.unread ≤ g.U.UnreadDisk.faults l.self.unread;
}

abbrev pub decreases-loop-group : goal.decreases-loop-group
decreases-loop-group g l = 2 ^ 64 - length l.self.rest

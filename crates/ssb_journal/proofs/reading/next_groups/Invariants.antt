use Rattle.std.proofs.Common.{◌≡◌, ◌-◌, ◌^◌, ◌≤◌, ◌++◌, length}
use Rattle.journal.specs.Groups.{lists}
use Rattle.ssb_journal.proofs.reading.next_groups.Given as goal

abbrev pub invariant-loop-next : goal.invariant-loop-next
invariant-loop-next g l = record {
  groups : l.groups.groups ≡ l.fn.groups.groups ++ lists l.next.items;
  known : g.U.UnreadDisk.holds l.groups.unread ≡ g.U.UnreadDisk.holds l.fn.groups.unread;
  later : g.U.UnreadDisk.faults l.fn.groups.unread ≤ g.U.UnreadDisk.faults l.groups.unread;
}

abbrev pub decreases-loop-next : goal.decreases-loop-next
decreases-loop-next g l = 2 ^ 60 - length l.groups.groups

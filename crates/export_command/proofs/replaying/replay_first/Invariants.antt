use Rattle.std.proofs.Common.{◌≡◌, ◌-◌, ◌^◌, length}
use Rattle.export_command.specs.Histories.{IsWithin}
use Rattle.export_command.specs.Standing.{Follows}
use Rattle.export_command.proofs.replaying.replay_first.Given as goal

-- the commits so far were made again, no more than are asked for, and these orders stand after them
abbrev pub invariant-loop-next : goal.invariant-loop-next
invariant-loop-next g l = record {
  store : l.store ≡ record { base = l.initial.store.base; log = l.journal.commits };
  orders : Follows l.store.base l.store.log l.orders;
  marks : l.journal.marks ≡ l.initial.journal.marks;
  known : g.U.UnreadDisk.holds l.journal.unread ≡ g.U.UnreadDisk.holds l.initial.journal.unread;
  within : IsWithin l.most (length l.journal.commits);
}

abbrev pub decreases-loop-next : goal.decreases-loop-next
decreases-loop-next g l = 2 ^ 60 - l.journal.texts

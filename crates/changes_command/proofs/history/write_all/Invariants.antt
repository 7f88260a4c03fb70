use Rattle.std.proofs.Common.{◌≡◌, ◌-◌, ◌^◌}
use Rattle.std.specs.Io.KnownBytes.{Appends}
use Rattle.changes_command.specs.Signed.{asked_of, changes_behind}
use Rattle.changes_command.specs.SignedText.{lines_text}
use Rattle.changes_command.proofs.history.write_all.Given as goal

-- the commits so far were made again, and what they change was written
abbrev pub invariant-loop-next : goal.invariant-loop-next
invariant-loop-next g l = record {
  written : Appends (g.W.Write.contents l.initial.out) (g.W.Write.contents l.out) (lines_text l.asked.format
      (asked_of l.asked.start (changes_behind l.asked.past l.initial.store.base.lines l.journal.commits)));
  store : l.store ≡ record { base = l.initial.store.base; log = l.journal.commits };
  marks : l.journal.marks ≡ l.initial.journal.marks;
  known : g.U.UnreadDisk.holds l.journal.unread ≡ g.U.UnreadDisk.holds l.initial.journal.unread;
}

abbrev pub decreases-loop-next : goal.decreases-loop-next
decreases-loop-next g l = 2 ^ 60 - l.journal.texts

use Rattle.std.proofs.Common.{◌≡◌, ◌-◌, ◌^◌}
use Rattle.serve_command.specs.Remade.{AreAtLog}
use Rattle.serve_command.proofs.remade.read_all.Given as goal

-- the commits so far were made again
abbrev pub invariant-loop-next : goal.invariant-loop-next
invariant-loop-next g l = record {
  at_log : AreAtLog l.server l.journal.reader.commits l.seats.clients.items l.seats.reader l.seats.dispatchers.items;
  marks : l.journal.reader.marks ≡ l.initial.journal.reader.marks;
  start : l.journal.start ≡ l.initial.journal.start;
  path : l.journal.path.now ≡ l.initial.journal.path.now;
  known : g.U.UnreadDisk.holds l.journal.reader.unread ≡ g.U.UnreadDisk.holds l.initial.journal.reader.unread;
}

abbrev pub decreases-loop-next : goal.decreases-loop-next
decreases-loop-next g l = 2 ^ 60 - l.journal.reader.texts

use Rattle.std.proofs.Common.{◌≡◌, ◌<◌, ◌^◌, List, ap, arith, length, rules, true, ◌∙◌, sym, subst, ℕ}
use Rattle.journal.specs.Groups.{lists}
use Rattle.journal.specs.Reading.{HasFirst}
use Rattle.journal.proofs.ReadingLaws.{first_groups, rest_behind, few_groups}
use Rattle.journal.proofs.reading.UnreadJournal.soundness.Goals as goal

pub returns-clause-first : goal.returns-clause-first
returns-clause-first g c =
    let r = c.self.inside in
    rw (← c.self.view_is) (first_groups (g.U.UnreadDisk.taken r.unread) (g.U.UnreadDisk.is_ended r.unread) (lists r.groups.items) r.buffer.items r.place r.end r.is_done c.self.invariant)

pub returns-clause-behind : goal.returns-clause-behind
returns-clause-behind g c =
    let r = c.self.inside in
    rw (← c.self.view_is) (rest_behind (g.U.UnreadDisk.taken r.unread) (g.U.UnreadDisk.is_ended r.unread) (lists r.groups.items) r.buffer.items r.place r.end r.is_done c.self.invariant)

pub returns-clause-few : goal.returns-clause-few
returns-clause-few g c =
    let r = c.self.inside in
    rw (← c.self.view_is) (few_groups (g.U.UnreadDisk.taken r.unread) (g.U.UnreadDisk.is_ended r.unread) (lists r.groups.items) r.buffer.items r.place r.end r.is_done c.self.invariant (omega arith))

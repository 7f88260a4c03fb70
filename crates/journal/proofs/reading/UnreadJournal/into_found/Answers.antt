use Rattle.std.proofs.Common.{◌≡◌, List, ℕ, rules, true, ap, ◌∙◌, sym}
use Rattle.journal.specs.Groups.{lists, behind}
use Rattle.journal.proofs.ReadingLaws.{are_torn, buffer_behind, rest_behind}
use Rattle.journal.proofs.reading.UnreadJournal.into_found.Goals as goal

pub returns-clause-torn : goal.returns-clause-torn
returns-clause-torn g c =
    let r = c.self.inside in
    let seen = g.U.Whole.Disk.seen c.new.result in
    let done : r.is_done ≡ true = search rules in
    let same : seen ≡ g.U.UnreadDisk.taken r.unread = search rules in
    are_torn seen r.buffer.items c.torn_of.result.items
    (buffer_behind (g.U.UnreadDisk.taken r.unread) (g.U.UnreadDisk.is_ended r.unread) (lists r.groups.items) r.buffer.items r.place r.end r.is_done c.self.invariant seen done same)
    c.torn_of.ensures.at_rest c.torn_of.ensures.torn

pub returns-clause-behind : goal.returns-clause-behind
returns-clause-behind g c =
    let r = c.self.inside in
    let done : r.is_done ≡ true = search rules in
    let same : g.U.Whole.Disk.seen c.new.result ≡ g.U.UnreadDisk.taken r.unread = search rules in
    let here = rest_behind (g.U.UnreadDisk.taken r.unread) (g.U.UnreadDisk.is_ended r.unread) (lists r.groups.items) r.buffer.items r.place r.end r.is_done c.self.invariant done in
    let all : behind (g.U.Whole.Disk.seen c.new.result) ≡ c.args.self.rest = ap behind same ∙ here ∙ search rules in
    all

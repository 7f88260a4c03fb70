use Rattle.std.proofs.Common.{subst}
use Rattle.journal.specs.Disk.{LeavesOnly}
use Rattle.journal.specs.Groups.{recovered, IsAppending}
use Rattle.journal.proofs.MomentLaws.{then_promised}
use Rattle.journal.proofs.journal.Journal.append.Goals as goal

pub returns-in-Ok-clause-torn : goal.returns-in-Ok-clause-torn
returns-in-Ok-clause-torn g c =
    let seen = g.D.Disk.seen in
    let moment = g.D.Disk.moment in
    let left_since = g.D.Disk.left_since in
    let old = c.self.inside.file.disk in
    let new = c.promise_all.new.disk in
    subst (λ (self : g.row.D.Denot). LeavesOnly moment left_since self new (IsAppending (recovered (seen self)) c.args.group.now)) c.self.view_is
    (then_promised moment left_since seen g.D.Disk.may_leave g.met.D.Disk.counts_now g.met.D.Disk.leaves old c.append.new.self.disk new
    (IsAppending (recovered (seen old)) c.args.group.now) c.in-Ok.ensures.torn c.promise_all.ensures.any_moment)

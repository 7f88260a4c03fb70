use Rattle.std.proofs.Common.{arith, false}
use Rattle.journal.specs.Groups.{lists}
use Rattle.journal.proofs.FollowingLaws.{followed_first}
use Rattle.journal.proofs.ReadingLaws.{few_groups}
use Rattle.journal.proofs.followed.Followed.soundness.Goals as goal

pub returns-clause-first : goal.returns-clause-first
returns-clause-first g c =
    let f = c.self.inside in
    rw (← c.self.view_is) (followed_first (g.F.GrowingFile.seen f.file) (lists f.groups.items) f.buffer.items f.place f.end
    c.self.invariant.read)

pub returns-clause-few : goal.returns-clause-few
returns-clause-few g c =
    let f = c.self.inside in
    rw (← c.self.view_is) (few_groups (g.F.GrowingFile.seen f.file) (Unit {0}) (lists f.groups.items) f.buffer.items f.place
    f.end false c.self.invariant.read (omega arith))

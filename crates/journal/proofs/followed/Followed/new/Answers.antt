use Rattle.std.proofs.Common.{ap}
use Rattle.journal.specs.Groups.{lists}
use Rattle.journal.proofs.FollowingLaws.{none_followed}
use Rattle.journal.proofs.followed.Followed.new.Goals as goal

pub invariant_of-result : goal.invariant_of-result
invariant_of-result g c =
    none_followed (g.F.GrowingFile.seen c.args.file) (g.F.GrowingFile.may_leave c.args.file) (lists c.new-2.result.items)
    c.new.result.items c.requires (ap lists c.new-2.ensures) c.new.ensures.items

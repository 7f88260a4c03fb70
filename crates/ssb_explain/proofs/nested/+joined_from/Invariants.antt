use Rattle.std.proofs.Common.{length}
use Rattle.ssb_explain.proofs.nested.+joined_from.Given as goal

abbrev pub decreases-joined_from : goal.decreases-joined_from
decreases-joined_from l = length l.outer.now

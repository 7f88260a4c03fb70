use Rattle.std.proofs.Common.{length}
use Rattle.ssb_sql.proofs.building.+limit_in.Given as goal

abbrev pub decreases-limit_in : goal.decreases-limit_in
decreases-limit_in l = length l.pieces.now

use Rattle.std.proofs.Common.{length}
use Rattle.ssb_sql.proofs.words.+is_listed.Given as goal

abbrev pub decreases-is_listed : goal.decreases-is_listed
decreases-is_listed l = length l.words.now

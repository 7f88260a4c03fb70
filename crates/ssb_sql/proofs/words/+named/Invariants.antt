use Rattle.std.proofs.Common.{length}
use Rattle.ssb_sql.proofs.words.+named.Given as goal

abbrev pub decreases-named : goal.decreases-named
decreases-named g l = length l.names.now

use Rattle.std.proofs.Common.{length}
use Rattle.ssb_statements.proofs.listing.+cause_in.Given as goal

abbrev pub decreases-cause_in : goal.decreases-cause_in
decreases-cause_in l = length l.answers.now

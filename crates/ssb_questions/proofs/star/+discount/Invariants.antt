use Rattle.std.proofs.Common.{length}
use Rattle.ssb_questions.proofs.star.+discount.Given as goal

abbrev pub decreases-discount : goal.decreases-discount
decreases-discount l = length l.clauses.now

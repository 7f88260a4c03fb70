use Rattle.std.proofs.Common.{length}
use Rattle.ssb_questions.proofs.star.+quantity.Given as goal

abbrev pub decreases-quantity : goal.decreases-quantity
decreases-quantity l = length l.clauses.now

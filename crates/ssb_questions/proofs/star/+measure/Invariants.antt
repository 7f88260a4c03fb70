use Rattle.std.proofs.Common.{length}
use Rattle.ssb_questions.proofs.star.+measure.Given as goal

abbrev pub decreases-measure : goal.decreases-measure
decreases-measure l = length l.clauses.now

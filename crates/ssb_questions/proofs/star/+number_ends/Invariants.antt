use Rattle.std.proofs.Common.{length}
use Rattle.ssb_questions.proofs.star.+number_ends.Given as goal

abbrev pub decreases-number_ends : goal.decreases-number_ends
decreases-number_ends l = length l.clauses.now

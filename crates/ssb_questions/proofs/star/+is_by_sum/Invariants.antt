use Rattle.std.proofs.Common.{length}
use Rattle.ssb_questions.proofs.star.+is_by_sum.Given as goal

abbrev pub decreases-is_by_sum : goal.decreases-is_by_sum
decreases-is_by_sum l = length l.clauses.now

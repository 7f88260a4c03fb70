use Rattle.std.proofs.Common.{length}
use Rattle.ssb_questions.proofs.star.+text_ends.Given as goal

abbrev pub decreases-text_ends : goal.decreases-text_ends
decreases-text_ends l = length l.clauses.now

use Rattle.std.proofs.Common.{length}
use Rattle.ssb_questions.proofs.constants.+equal_constants.Given as goal

abbrev pub decreases-equal_constants : goal.decreases-equal_constants
decreases-equal_constants l = length l.values.now

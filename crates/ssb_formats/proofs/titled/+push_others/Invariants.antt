use Rattle.std.proofs.Common.{length}
use Rattle.ssb_formats.proofs.titled.+push_others.Given as goal

abbrev pub decreases-push_others : goal.decreases-push_others
decreases-push_others l = length l.titles.now

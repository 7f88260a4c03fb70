use Rattle.std.proofs.Common.{length}
use Rattle.ssb_formats.proofs.table_text.+push_dashes.Given as goal

abbrev pub decreases-push_dashes : goal.decreases-push_dashes
decreases-push_dashes l = length l.alignments.now

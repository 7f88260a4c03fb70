use Rattle.std.proofs.Common.{length}
use Rattle.ssb_formats.proofs.statement_bars.+drawn_of.Given as goal

abbrev pub decreases-drawn_of : goal.decreases-drawn_of
decreases-drawn_of l = length l.row.now

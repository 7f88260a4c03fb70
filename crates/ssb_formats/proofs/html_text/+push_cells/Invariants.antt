use Rattle.std.proofs.Common.{length}
use Rattle.ssb_formats.proofs.html_text.+push_cells.Given as goal

abbrev pub decreases-push_cells : goal.decreases-push_cells
decreases-push_cells l = length l.numbers.now

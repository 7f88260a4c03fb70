use Rattle.std.proofs.Common.{length, map}
use Rattle.ssb_script.specs.Lines as script
use Rattle.ssb_trace.specs.Direct.{BeginsWithLines, lines_in}
use Rattle.ssb_trace.proofs.direct.take_lines.Given as goal

abbrev pub invariant-loop-line : goal.invariant-loop-line
invariant-loop-line l = BeginsWithLines l.text (lines_in (map script.Line l.lines.items)) l.rest

abbrev pub decreases-loop-line : goal.decreases-loop-line
decreases-loop-line l = length l.rest

use Rattle.ssb_trace.proofs.DirectLaws.{begins_none, lines_more}
use Rattle.ssb_trace.proofs.direct.take_lines.Goals as goal

pub loop-line-init : goal.loop-line-init
loop-line-init c = rw c.new-lines.ensures.items (begins_none c.args.text.now)

pub loop-line-preserved : goal.loop-line-preserved
loop-line-preserved c =
    rw c.in_ok-push.ensures (lines_more c.loop-line.lines.items c.in-Some.line c.loop-line.invariant c.in-Some.ensures)

use Rattle.std.proofs.Common.{length}
use Rattle.ssb_trace.proofs.DirectLaws.{HasTaken}
use Rattle.ssb_trace.proofs.direct.read_directly.Given as goal

abbrev pub invariant-loop-rest : goal.invariant-loop-rest
invariant-loop-rest l = HasTaken l.text l.rest l.commits.items

abbrev pub decreases-loop-rest : goal.decreases-loop-rest
decreases-loop-rest l = length l.rest

use Rattle.std.proofs.Common.{take, All, IfSome, FitsSigned}
use Rattle.std.specs.Int.{w64}
use Rattle.ssb_trace.proofs.held.sums_are_held.Given as goal

abbrev pub invariant-loop-row : goal.invariant-loop-row
invariant-loop-row l = All (λ row. IfSome row.sum (FitsSigned w64)) (take l.row-index l.rows)

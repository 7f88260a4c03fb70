use Rattle.std.proofs.Common.{take, All}
use Rattle.ssb_trace.specs.Allowed.{IsHeld}
use Rattle.ssb_trace.proofs.held.answers_are_held.Given as goal

abbrev pub invariant-loop-told : goal.invariant-loop-told
invariant-loop-told l = All IsHeld (take l.told-index l.answers)

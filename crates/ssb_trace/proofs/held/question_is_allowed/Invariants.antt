use Rattle.std.proofs.Common.{take, All}
use Rattle.ssb_trace.specs.Allowed.{IsAllowedValue}
use Rattle.ssb_trace.proofs.held.question_is_allowed.Given as goal

abbrev pub invariant-loop-constant : goal.invariant-loop-constant
invariant-loop-constant l = All IsAllowedValue (take l.constant-index l.constant-items)

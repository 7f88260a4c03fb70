use Rattle.std.proofs.Common.{take, All}
use Rattle.ssb_script.specs.Requests.{IsWholeAction}
use Rattle.ssb_trace.specs.Allowed.{IsAllowedAction}
use Rattle.ssb_trace.proofs.committed.actions_are_allowed.Given as goal

abbrev pub invariant-loop-action : goal.invariant-loop-action
invariant-loop-action l =
    All IsWholeAction (take l.action-index l.actions) × All IsAllowedAction (take l.action-index l.actions)

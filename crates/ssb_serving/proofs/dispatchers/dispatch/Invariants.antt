use Rattle.ssb_serving.specs.Members.{IsStill}
use Rattle.ssb_serving.proofs.dispatchers.dispatch.Given as goal

abbrev pub invariant-loop : goal.invariant-loop
invariant-loop g l = IsStill (g.D.HasToken.token l.fn.dispatcher) (g.D.HasToken.token l.dispatcher)

use Rattle.scan_kernel.proofs.PlanLaws.{AreDecided}
use Rattle.scan_kernel.proofs.wanted.plan_of.Given as goal

abbrev pub invariant-loop-question : goal.invariant-loop-question
invariant-loop-question l = AreDecided l.zone l.input.wanted.now l.question l.plan

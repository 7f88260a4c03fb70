use Rattle.std.proofs.Common.{◌≡◌, take}
use Rattle.std.specs.Prelude.{All}
use Rattle.shared_scan.specs.Batch.{plans_of}
use Rattle.shared_scan.proofs.PlanLaws.{HasFewColumns}
use Rattle.shared_scan.proofs.prepare.plans_of.Given as goal

abbrev pub invariant-loop-question : goal.invariant-loop-question
invariant-loop-question l = record {
  are : l.plans.items ≡ plans_of (take l.question-index l.questions);
  four : All HasFewColumns l.plans.items;
}

use Rattle.std.proofs.Common.{◌≡◌, ℕ, ◌<◌, true, Some}
use Rattle.std.specs.Prelude.{All, slice_get}
use Rattle.ssb_questions.specs.declared.plan.Plan.{Plan}
use Rattle.shared_scan.specs.Tests.{is_place, tests_of}
use Rattle.shared_scan.proofs.plan_tests.tested_places.Given as goal

abbrev pub invariant-loop-plan : goal.invariant-loop-plan
invariant-loop-plan l = (k : ℕ) (plan : Plan) → k < l.plan-index → slice_get l.plans k ≡ Some plan
    → All (λ test. is_place l.places.items test.column.place ≡ true) (tests_of l.table plan)

-- Which combinations pass, by what they have in the tested columns.
use Rattle.std.specs.Prelude.{◌≡◌, ◌↔◌, true, List, None}
use Rattle.ssb_questions.specs.Clauses.{clauses_of}
use Rattle.ssb_questions.specs.Plan.{IsOverColumns}
use Rattle.ssb_questions.specs.Question.{constants_fault}
use Rattle.ssb_questions.specs.Star.{star_plan_over}
use Rattle.ssb_questions.specs.StarMeaning.{ClausesPass, PlanPasses, Tested}
use Rattle.ssb_questions.specs.declared.plan.Plan.{Plan}
use Rattle.ssb_questions.specs.declared.query.Query.TheVariants.{Star}
use Rattle.ssb_questions.specs.declared.value.Value.{Value}
use Rattle.ssb_answers.specs.Combination.{Combination, passes, value_at}

-- what tests look at in a combination
abbrev pub tested : Combination → Tested
tested combination = record {
  value = λ column. value_at column combination;
  quantity = combination.fact.quantity;
  discount = combination.fact.discount;
}

-- a combination passes a plan exactly where the plan lets pass what it has; each test is of a column of its own
-- dimension, as all are of the plan of a question
abbrev pub PlansPass : Type 0
PlansPass = (plan : Plan) (combination : Combination) → IsOverColumns plan
    → (passes plan combination ≡ true) ↔ PlanPasses plan (tested combination)

-- a combination passes the plan of `star` exactly where the clauses let pass what it has
abbrev pub StarClausesPass : Type 0
StarClausesPass = (constants : List Value) (combination : Combination) → constants_fault Star constants ≡ None
    → (passes (star_plan_over constants) combination ≡ true) ↔ ClausesPass (clauses_of constants) (tested combination)

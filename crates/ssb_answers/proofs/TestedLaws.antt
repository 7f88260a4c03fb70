-- A combination passes where the tests hold of what it has in the tested columns.
use Rattle.std.proofs.Common.{◌≡◌, ◌∙◌, ℕ, ◌≤◌, true, ◌&&◌, nat_le, List, [], ◌∷◌, Option, Some, None}
use Rattle.std.proofs.Common.{refl, sym, ap, arith}
use Rattle.std.specs.Prelude.{IfSome, ◌↔◌}
use Rattle.std.specs.List.{AllByRecursion}
use Rattle.std.specs.Cmp.{first_so, second_so}
use Rattle.std.specs.Cmp.Derive.{both_true}
use Rattle.std.proofs.lemmas.Bool.Decides.{nat_tests}
use Rattle.ssb_schema.specs.declared.table.Table.{Table}
use Rattle.ssb_schema.specs.declared.table.Table.TheVariants.{Customer, Supplier, Part, Date}
use Rattle.ssb_questions.proofs.StarLaws.{over_columns}
use Rattle.ssb_questions.proofs.StarMeaningLaws.{star_plan_means}
use Rattle.ssb_questions.specs.Cond.{holds}
use Rattle.ssb_questions.specs.Plan.{IsTestOf}
use Rattle.ssb_questions.specs.Star.{star_plan_over}
use Rattle.ssb_questions.specs.StarMeaning.{IsInRange, TestsHold}
use Rattle.ssb_questions.specs.declared.cond.Test.{Test}
use Rattle.ssb_questions.specs.declared.plan.NumberRange.{NumberRange}
use Rattle.ssb_questions.specs.declared.query.Query.TheVariants.{Star}
use Rattle.ssb_answers.specs.Combination.{Combination, passes, value_at, value_in}
use Rattle.ssb_answers.specs.Passing.{tested, PlansPass, StarClausesPass}
use Rattle.ssb_answers.specs.RowValues.{pass, is_within}

module _ (c : Combination) where
  -- a test of a column of the table looks at what the combination has there
  looks_at : (t : Table) (test : Test) → IsTestOf t test
      → holds test.cond (value_at test.column c) ≡ holds test.cond (value_in t test.column.place c)
  looks_at t test own = ap (λ (u : Table). holds test.cond (value_in u test.column.place c)) own.table

  tests_hold : (t : Table) (tests : List Test) → AllByRecursion (IsTestOf t) tests
      → pass tests (λ place. value_in t place c) ≡ true → TestsHold tests (λ column. value_at column c)
  tests_hold t [] own passed = tt
  tests_hold t (test ∷ tests) own passed = (
    looks_at t test own.0 ∙ first_so _ _ passed,
    tests_hold t tests own.1 (second_so _ _ passed),
  )

  tests_pass : (t : Table) (tests : List Test) → AllByRecursion (IsTestOf t) tests
      → TestsHold tests (λ column. value_at column c) → pass tests (λ place. value_in t place c) ≡ true
  tests_pass t [] own held = refl
  tests_pass t (test ∷ tests) own held =
      both_true (sym (looks_at t test own.0) ∙ held.0) (tests_pass t tests own.1 held.1)

-- a number that lies in the range, if there is one
lies_in : (range : Option NumberRange) (n : ℕ) → is_within range n ≡ true → IfSome range (λ r. IsInRange r n)
lies_in None n within = grind arith
lies_in (Some range) n within = grind (arith, nat_le, nat_tests)

is_in : (range : Option NumberRange) (n : ℕ) → IfSome range (λ r. IsInRange r n) → is_within range n ≡ true
is_in None n lies = grind arith
is_in (Some range) n lies = grind (arith, nat_le, nat_tests)

pub plans_pass : PlansPass
plans_pass plan c own = (
  λ passed.
      let to_parts = first_so _ _ passed in
      let to_suppliers = first_so _ _ to_parts in
      let to_customers = first_so _ _ to_suppliers in
      let ranges = first_so _ _ to_customers in
      record {
        customers = tests_hold c Customer plan.customers own.customers (second_so _ _ to_customers);
        suppliers = tests_hold c Supplier plan.suppliers own.suppliers (second_so _ _ to_suppliers);
        parts = tests_hold c Part plan.parts own.parts (second_so _ _ to_parts);
        dates = tests_hold c Date plan.dates own.dates (second_so _ _ passed);
        quantity = lies_in plan.quantity c.fact.quantity (first_so _ _ ranges);
        discount = lies_in plan.discount c.fact.discount (second_so _ _ ranges);
      },
  λ held.
      both_true
      (both_true
      (both_true
      (both_true
      (both_true (is_in plan.quantity c.fact.quantity held.quantity)
      (is_in plan.discount c.fact.discount held.discount))
      (tests_pass c Customer plan.customers own.customers held.customers))
      (tests_pass c Supplier plan.suppliers own.suppliers held.suppliers))
      (tests_pass c Part plan.parts own.parts held.parts))
      (tests_pass c Date plan.dates own.dates held.dates),
)

pub star_clauses_pass : StarClausesPass
star_clauses_pass constants c fit =
    let by_tests = plans_pass (star_plan_over constants) c (over_columns Star constants) in
    let by_clauses = (star_plan_means constants fit).passes (tested c) in
    (λ passed. by_clauses.0 (by_tests.0 passed), λ pass. by_tests.1 (by_clauses.1 pass))

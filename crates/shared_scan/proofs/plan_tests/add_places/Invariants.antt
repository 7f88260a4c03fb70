use Rattle.std.proofs.Common.{◌≡◌, ℕ, ◌<◌, true, get_or}
use Rattle.ssb_questions.specs.declared.cond.Test.{Test}
use Rattle.shared_scan.specs.Tests.{is_place}
use Rattle.shared_scan.proofs.plan_tests.add_places.Given as goal

abbrev pub invariant-loop-test : goal.invariant-loop-test
invariant-loop-test l = record {
  keeps : (place : ℕ) → is_place l.initial.places.items place ≡ true → is_place l.places.items place ≡ true;
  has : (k : ℕ) (d : Test) → k < l.test-index → is_place l.places.items (get_or l.tests k d).column.place ≡ true;
}

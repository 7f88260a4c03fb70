-- A row passes a plan's tests where each of its values passes those of its column.
use Rattle.std.proofs.Common.{ℕ, suc, ◌≡◌, Bool, true, false, not, List, [], ◌∷◌, map, get_or, nat_eq, Some, refl, sym}
use Rattle.std.proofs.Common.{ap, ◌∙◌, arith}
use Rattle.std.specs.Prelude.{◌&&◌, ◌||◌, slice_get, All}
use Rattle.std.specs.List.{list_all}
use Rattle.std.specs.Cmp.{unsigned_Decides}
use Rattle.std.proofs.lemmas.List.{get_or-map}
use Rattle.std.proofs.lemmas.Option.{get_or_from_slice_get, slice_get_within}
use Rattle.ssb_questions.specs.Cond.{holds}
use Rattle.ssb_questions.specs.declared.cond.Test.{Test}
use Rattle.ssb_questions.specs.declared.value.Value.{Value}
use Rattle.ssb_questions.specs.declared.value.Value.TheVariants.{Number}
use Rattle.ssb_answers.specs.RowValues.{pass}
use Rattle.shared_scan.specs.Tests.{is_place, passes_at}

-- two tests that hold of the same are one
same_bool : (a b : Bool) → (a ≡ true → b ≡ true) → (b ≡ true → a ≡ true) → a ≡ b
same_bool true b to from = sym (to refl)
same_bool false true to from = from refl
same_bool false false to from = refl

both : (a b : Bool) → (a && b) ≡ true → (a ≡ true) × (b ≡ true)
both true b e = (refl, e)
both false b e = absurd (cc)

joined : (a b : Bool) → a ≡ true → b ≡ true → (a && b) ≡ true
joined a b e f = ap (λ (x : Bool). x && b) e ∙ f

-- a test of all holds of the one that is found
all_has : (f : ℕ → Bool) (places : List ℕ) (place : ℕ) → list_all f places ≡ true → is_place places place ≡ true
    → f place ≡ true
all_has f [] place all there = absurd (cc)
all_has f (own ∷ places) place all there =
    let parts = both (f own) (list_all f places) all in
    elim (nat_eq own place) as (λ b. nat_eq own place ≡ b → f place ≡ true) [
      | true ↦ λ t. ap f (sym ((unsigned_Decides own place).0 t)) ∙ parts.0
      | false ↦ λ e. all_has f places place parts.1 (sym (ap (λ (b : Bool). b || is_place places place) e) ∙ there)
    ] refl

all_of : (f : ℕ → Bool) (places : List ℕ) → ((place : ℕ) → f place ≡ true) → list_all f places ≡ true
all_of f [] each = refl
all_of f (own ∷ places) each = joined (f own) (list_all f places) (each own) (all_of f places each)

module _ (value : ℕ → Value) where
  own_tests : (test : Test) → (not (nat_eq test.column.place test.column.place) || holds test.cond
      (value test.column.place)) ≡ true → holds test.cond (value test.column.place) ≡ true
  own_tests test h = grind (arith, nat_eq)

  -- all tests of each tested column hold: so does each test
  each_holds : (tests all : List Test) (places : List ℕ)
      → list_all (λ place. passes_at all place (value place)) places ≡ true
      → ((test : Test) (place : ℕ) → passes_at all place (value place) ≡ true
      → passes_at tests place (value place) ≡ true)
      → All (λ test. is_place places test.column.place ≡ true) tests → pass tests value ≡ true
  each_holds [] all places hold part covered = refl
  each_holds (test ∷ tests) all places hold part covered =
      let here = all_has (λ place. passes_at all place (value place)) places test.column.place hold
      (covered 0 test (omega arith)) in
      let mine = both (not (nat_eq test.column.place test.column.place) || holds test.cond (value test.column.place))
      (passes_at tests test.column.place (value test.column.place)) (part test test.column.place here) in
      let later = each_holds tests all places hold
      (λ t place h. (both (not (nat_eq test.column.place place) || holds test.cond (value place))
      (passes_at tests place (value place)) (part t place h)).1)
      (λ k d below. covered (suc k) d (omega (arith, below))) in
      joined (holds test.cond (value test.column.place)) (pass tests value) (own_tests test mine.0) later

  -- each test holds: so do those of any column
  column_holds : (tests : List Test) (place : ℕ) → pass tests value ≡ true → passes_at tests place (value place) ≡ true
  column_holds [] place hold = refl
  column_holds (test ∷ tests) place hold =
      let parts = both (holds test.cond (value test.column.place)) (pass tests value) hold in
      let here : (not (nat_eq test.column.place place) || holds test.cond (value place)) ≡ true =
      elim (nat_eq test.column.place place) as (λ b. nat_eq test.column.place place ≡ b
      → (not b || holds test.cond (value place)) ≡ true) [
        | true ↦ λ t. ap (λ (n : ℕ). holds test.cond (value n)) (sym ((unsigned_Decides test.column.place place).0 t))
            ∙ parts.0
        | false ↦ λ e. refl
      ] refl in
      joined (not (nat_eq test.column.place place) || holds test.cond (value place))
      (passes_at tests place (value place)) here (column_holds tests place parts.1)

  -- so a row passes all tests where it passes those of each tested column
  pub pass_by_places : (tests : List Test) (places : List ℕ)
      → All (λ test. is_place places test.column.place ≡ true) tests
      → list_all (λ place. passes_at tests place (value place)) places ≡ pass tests value
  pass_by_places tests places covered = grind (arith, same_bool, each_holds, all_of, column_holds)

-- what a row has in each column
pub row_reads : {R : Type 0} (value : ℕ → R → Value) (rows : List R) (p : ℕ) (row : R) → slice_get rows p ≡ Some row
    → (place : ℕ) → get_or (map (value place) rows) p (Number 0) ≡ value place row
row_reads value rows p row at place = get_or-map (value place) rows p row (Number 0) (slice_get_within rows p row at)
    ∙ ap (value place) (get_or_from_slice_get rows p row row at)

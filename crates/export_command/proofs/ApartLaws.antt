-- Lists of which no two elements are the same, by recursion.
use Rattle.std.proofs.Common.{◌≡◌, ℕ, zero, suc, Bool, false, List, [], ◌∷◌, ◌++◌, filter, Some, slice_get}
use Rattle.std.proofs.Common.{refl, subst, arith}
use Rattle.std.specs.List.{AllByRecursion}
use Rattle.ssb_schema.specs.FirstFault.{AreDistinct}

pub all_append : {X : Type 0} (P : X → Type 0) (xs ys : List X) → AllByRecursion P xs → AllByRecursion P ys
    → AllByRecursion P (xs ++ ys)
all_append P [] ys one other = other
all_append P (x ∷ xs) ys one other = (one.0, all_append P xs ys one.1 other)

pub all_filter : {X : Type 0} (P : X → Type 0) (p : X → Bool) (xs : List X) → AllByRecursion P xs
    → AllByRecursion P (filter p xs)
all_filter P p [] all = grind arith
all_filter P p (x ∷ xs) all = grind (arith, all_filter P p xs all.1)

pub all_more : {X : Type 0} (P Q : X → Type 0) → ((x : X) → P x → Q x) → (xs : List X) → AllByRecursion P xs
    → AllByRecursion Q xs
all_more P Q more [] all = tt
all_more P Q more (x ∷ xs) all = (more x all.0, all_more P Q more xs all.1)

all-at : {X : Type 0} (P : X → Type 0) (xs : List X) (j : ℕ) (x : X) → AllByRecursion P xs → slice_get xs j ≡ Some x
    → P x
all-at P [] j x all at = absurd cc
all-at P (y ∷ ys) zero x all at = let same : y ≡ x = cc in subst P same all.0
all-at P (y ∷ ys) (suc j) x all at = all-at P ys j x all.1 at

all-of-at : {X : Type 0} (P : X → Type 0) (xs : List X) → ((j : ℕ) (x : X) → slice_get xs j ≡ Some x → P x)
    → AllByRecursion P xs
all-of-at P [] each = tt
all-of-at P (x ∷ xs) each = (each zero x refl, all-of-at P xs (λ j y at. each (suc j) y at))

-- each element is another than those behind it
abbrev pub IsApart : {X : Type 0} → (X → X → Bool) → List X → Type 0
IsApart same [] = Unit {0}
IsApart same (x ∷ xs) = AllByRecursion (λ later. same x later ≡ false) xs × IsApart same xs

pub apart_of_distinct : {X : Type 0} (same : X → X → Bool) (xs : List X) → AreDistinct same xs → IsApart same xs
apart_of_distinct same [] distinct = tt
apart_of_distinct same (x ∷ xs) distinct = (
  all-of-at (λ later. same x later ≡ false) xs (λ j y at. distinct zero (suc j) x y (omega arith) refl at),
  apart_of_distinct same xs (λ i j y z lt at_i at_j. distinct (suc i) (suc j) y z (omega (arith, lt)) at_i at_j),
)

pub distinct_of_apart : {X : Type 0} (same : X → X → Bool) (xs : List X) → IsApart same xs → AreDistinct same xs
distinct_of_apart same [] apart i j x y lt at_i at_j = grind arith
distinct_of_apart same (x ∷ xs) apart zero zero y z lt at_i at_j = grind arith
distinct_of_apart same (x ∷ xs) apart zero (suc j) y z lt at_i at_j = grind (arith, all-at)
distinct_of_apart same (x ∷ xs) apart (suc i) zero y z lt at_i at_j = grind arith
distinct_of_apart same (x ∷ xs) apart (suc i) (suc j) y z lt at_i at_j = grind (arith, distinct_of_apart same xs apart.1 i j y z (omega (arith, lt)) at_i at_j)

pub apart_filter : {X : Type 0} (same : X → X → Bool) (p : X → Bool) (xs : List X) → IsApart same xs
    → IsApart same (filter p xs)
apart_filter same p [] apart = grind arith
apart_filter same p (x ∷ xs) apart = grind (arith, all_filter, apart_filter same p xs apart.1)

pub apart_append : {X : Type 0} (same : X → X → Bool) (xs ys : List X) → IsApart same xs → IsApart same ys
    → AllByRecursion (λ x. AllByRecursion (λ y. same x y ≡ false) ys) xs → IsApart same (xs ++ ys)
apart_append same [] ys one other between = grind arith
apart_append same (x ∷ xs) ys one other between = grind (arith, all_append, apart_append same xs ys one.1 other between.1)

pub apart_more : {X : Type 0} (same other : X → X → Bool) → ((x y : X) → same x y ≡ false → other x y ≡ false)
    → (xs : List X) → IsApart same xs → IsApart other xs
apart_more same other more [] apart = grind arith
apart_more same other more (x ∷ xs) apart = grind (arith, all_more, apart_more same other more xs apart.1)

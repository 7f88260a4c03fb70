-- Laws of the first fault of a list of rows.
use Rattle.std.proofs.Common.{◌≡◌, ◌<◌, ◌≤◌, ℕ, zero, suc, ◌+◌, Bool, true, false, not, cond, ◌||◌, List}
use Rattle.std.proofs.Common.{[], ◌∷◌, ◌++◌, Option, Some, None, length, take, drop, refl, sym, ◌∙◌, ap, arith}
use Rattle.std.specs.List.{slice_get, list_any}
use Rattle.std.proofs.lemmas.List.Folds.{list_any-append}
use Rattle.std.proofs.lemmas.List.{take_more, drop_all, length-take, append_assoc, append-nil}
use Rattle.std.proofs.lemmas.Option.{slice_get_within, get_or_from_slice_get}
use Rattle.ssb_schema.specs.declared.fault.SchemaFault.{SchemaFault}
use Rattle.ssb_schema.specs.Columns.{or_else}
use Rattle.ssb_schema.specs.FirstFault.{rows_fault, AreDistinct}
use Rattle.ssb_schema.proofs.CheckLaws.{drop_at_element}

-- the first elements, and one more
pub take_with_element : {X : Type 0} (xs : List X) (i : ℕ) (x : X) → slice_get xs i ≡ Some x
    → take (i + 1) xs ≡ take i xs ++ x ∷ []
take_with_element xs i x e =
    let within = slice_get_within xs i x e in
    take_more xs i x within ∙ ap (λ y. take i xs ++ y ∷ []) (get_or_from_slice_get xs i x x e)

-- how many rows come before one
pub length-take_at : {X : Type 0} (xs : List X) (i : ℕ) (x : X) → slice_get xs i ≡ Some x → length (take i xs) ≡ i
length-take_at xs i x e = omega (arith, length-take i xs, slice_get_within xs i x e)

-- a negation that was read
pub not_is : (a b : Bool) → a ≡ not b → b ≡ not a
not_is a true e = sym (ap not e)
not_is a false e = sym (ap not e)

-- a fault that is there is the first
pub or_else_found : (a b : Option SchemaFault) (f : SchemaFault) → a ≡ Some f → or_else a b ≡ Some f
or_else_found a b f e = rw e refl

-- where there is none, the other is the first
pub or_else_absent : (a b : Option SchemaFault) → a ≡ None → or_else a b ≡ b
or_else_absent a b e = rw e refl

-- neither fault is there where the first of them is not
pub or_else_none : (a b : Option SchemaFault) → or_else a b ≡ None → (a ≡ None) × (b ≡ None)
or_else_none None b e = (refl, e)
or_else_none (Some f) b e = absurd cc

-- a test that found no fault
pub test_none : {X : Type 0} (test : Bool) (f : X) (other : Option X) → cond test (Some f) other ≡ None → (test ≡ false)
    × (other ≡ None)
test_none true f other e = absurd cc
test_none false f other e = (refl, e)

-- the first fault from a row on is the fault there, or else the first one after it
pub rows_fault_next : {R : Type 0} (f : List R → R → Option SchemaFault) (rows : List R) (i : ℕ) (r : R)
    → slice_get rows i ≡ Some r
    → rows_fault f (take i rows) (drop i rows)
    ≡ or_else (f (take i rows) r) (rows_fault f (take (i + 1) rows) (drop (i + 1) rows))
unfolding rows_fault
rows_fault_next f rows i r e = rw (drop_at_element rows i r e, take_with_element rows i r e) refl

-- past the last row there is no fault
pub rows_fault_ends : {R : Type 0} (f : List R → R → Option SchemaFault) (earlier rows : List R) (i : ℕ)
    → length rows ≤ i → rows_fault f earlier (drop i rows) ≡ None
unfolding rows_fault
rows_fault_ends f earlier rows i le = rw (drop_all i rows le) refl

-- no row has a fault where there is no first one
pub rows_fault_none : {R : Type 0} (f : List R → R → Option SchemaFault) (earlier rows : List R)
    → rows_fault f earlier rows ≡ None
    → (i : ℕ) (r : R) → slice_get rows i ≡ Some r → f (earlier ++ take i rows) r ≡ None
unfolding rows_fault
rows_fault_none f earlier [] e i r at = absurd cc
rows_fault_none f earlier (first ∷ rows) e zero r at =
    let here = (or_else_none (f earlier first) (rows_fault f (earlier ++ first ∷ []) rows) e).0 in
    let same : first ≡ r = cc in
    rw (append-nil earlier, ← same) here
rows_fault_none f earlier (first ∷ rows) e (suc i) r at =
    let later = (or_else_none (f earlier first) (rows_fault f (earlier ++ first ∷ []) rows) e).1 in
    rw (← append_assoc earlier (first ∷ []) (take i rows)) (rows_fault_none f (earlier ++ first ∷ []) rows later i r at)

-- neither of two tests passes
or_false : (a b : Bool) → (a || b) ≡ false → (a ≡ false) × (b ≡ false)
or_false true b e = absurd cc
or_false false b e = (refl, e)

take-nil : {X : Type 0} (n : ℕ) → take {A = X} n [] ≡ []
take-nil zero = refl
take-nil (suc n) = refl

-- an element of a list in which no element passes
list_any_at : {X : Type 0} (p : X → Bool) (xs : List X) (i : ℕ) (x : X) → list_any p xs ≡ false
    → slice_get xs i ≡ Some x → p x ≡ false
list_any_at p [] i x none at = absurd cc
list_any_at p (y ∷ ys) zero x none at = let same : y ≡ x = cc in rw (← same) (or_false (p y) (list_any p ys) none).0
list_any_at p (y ∷ ys) (suc i) x none at = list_any_at p ys i x (or_false (p y) (list_any p ys) none).1 at

-- an element among the first ones
slice_get-take : {X : Type 0} (xs : List X) (n i : ℕ) → i < n → slice_get (take n xs) i ≡ slice_get xs i
slice_get-take [] n i lt = ap (λ ys. slice_get ys i) (take-nil n)
slice_get-take (x ∷ xs) zero i lt = absurd (omega (arith, lt))
slice_get-take (x ∷ xs) (suc n) zero lt = refl
slice_get-take (x ∷ xs) (suc n) (suc i) lt = slice_get-take xs n i (omega (arith, lt))

-- rows of which none is the same as an earlier one are distinct
pub distinct_where_none : {R : Type 0} (same : R → R → Bool) (rows : List R)
    → ((i : ℕ) (r : R) → slice_get rows i ≡ Some r → list_any (λ e. same e r) (take i rows) ≡ false)
    → AreDistinct same rows
distinct_where_none same rows none i j earlier later lt at_i at_j =
    list_any_at (λ e. same e later) (take j rows) i earlier (none j later at_j) (slice_get-take rows j i lt ∙ at_i)

-- one more row among those seen
one_more : (same has : Bool) → cond same true has ≡ (has || (same || false))
one_more true true = refl
one_more true false = refl
one_more false true = refl
one_more false false = refl

-- whether a key is among those seen, after one more row
pub seen_next : {R K : Type 0} (eq : K → K → Bool) (key : R → K) (rows : List R) (i : ℕ) (r : R) (q : K)
    (has after : Bool)
    → slice_get rows i ≡ Some r → after ≡ cond (eq (key r) q) true has
    → has ≡ list_any (λ e. eq (key e) q) (take i rows)
    → after ≡ list_any (λ e. eq (key e) q) (take (i + 1) rows)
seen_next eq key rows i r q has after e added so_far =
    added ∙ one_more (eq (key r) q) has
    ∙ rw (take_with_element rows i r e, list_any-append (λ e. eq (key e) q) (take i rows) (r ∷ []), so_far) refl

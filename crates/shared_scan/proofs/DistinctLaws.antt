-- A value's code is its place in a list that has no value twice.
use Rattle.std.proofs.Common.{ℕ, zero, suc, ◌≡◌, ◌<◌, ◌≤◌, List, [], ◌∷◌, length, get_or, Bool, true, false, cond, not}
use Rattle.std.proofs.Common.{Some, unwrap_or, refl, sym, ap, ◌∙◌, arith, inl, inr}
use Rattle.std.specs.Prelude.{slice_get}
use Rattle.std.specs.List.{filter, AllByRecursion}
use Rattle.std.proofs.lemmas.Bool.{lt-ltb}
use Rattle.std.proofs.lemmas.List.Sums.{position_or_len_is, length-filter, count_by-le-length}
use Rattle.std.proofs.lemmas.Option.{get_or_from_slice_get, slice_get-get_or, slice_get_within}
use Rattle.ssb_questions.specs.Members.{Has}
use Rattle.ssb_questions.specs.declared.value.Value.{Value}
use Rattle.ssb_questions.specs.declared.value.Value.TheVariants.{Number}
use Rattle.ssb_questions.proofs.ValueLaws.{value_Decides}
use Rattle.ssb_answers.proofs.MemberLaws.{has_filter}
use Rattle.std.proofs.lemmas.List.{get_or-map, length-map}
use Rattle.dimension_index.specs.Codes.{is_same, distinct, codes_of}
use Rattle.scan_kernel.specs.Groups.{code_in, AreApart}
use Rattle.shared_scan.specs.Numbering.{IsUsed}

pub same_self : (v : Value) → is_same v v ≡ true
same_self v = (value_Decides v v).1 refl

same_only : (v w : Value) → is_same v w ≡ true → v ≡ w
same_only v w e = (value_Decides v w).0 e

pub not_same : (v w : Value) → (v ≡ w → ⊥) → is_same v w ≡ false
not_same v w differs = grind (arith, same_only)

differs_from : (v w : Value) → is_same v w ≡ false → v ≡ w → ⊥
differs_from v w e same = let t : is_same v w ≡ true = (value_Decides v w).1 same in cc

pub has_at : {X : Type 0} (xs : List X) (i : ℕ) (v : X) → slice_get xs i ≡ Some v → Has xs v
has_at [] i v e = cc
has_at (x ∷ xs) zero v e = inl (let same : x ≡ v = cc in sym same)
has_at (x ∷ xs) (suc i) v e = inr (has_at xs i v e)

pub has_index : {X : Type 0} (xs : List X) (v : X) → Has xs v → (i : ℕ) × (slice_get xs i ≡ Some v)
has_index [] v h = absurd h
has_index (x ∷ xs) v (inl e) = (0, ap Some (sym e))
has_index (x ∷ xs) v (inr h) = let rest = has_index xs v h in (suc rest.0, rest.1)

-- the code of the value at an index is the index
pub code_is : (xs : List Value) (n : ℕ) (v : Value) → AreApart xs → slice_get xs n ≡ Some v → code_in xs v ≡ n
code_is xs n v apart at = grind (arith, slice_get_within, get_or_from_slice_get, same_self, position_or_len_is, not_same, lt-ltb, unwrap_or)

-- no two of the values are the same
abbrev Once : List Value → Type 0
Once [] = Unit {0}
Once (x ∷ xs) = AllByRecursion (λ other. is_same x other ≡ false) xs × Once xs

all_kept : (P : Value → Type 0) (p : Value → Bool) (xs : List Value) → AllByRecursion P xs
    → AllByRecursion P (filter p xs)
all_kept P p [] h = tt
all_kept P p (x ∷ xs) h = elim (p x) as (λ b. AllByRecursion P (cond b (x ∷ filter p xs) (filter p xs)))
    [ true ↦ (h.0, all_kept P p xs h.1) | false ↦ all_kept P p xs h.1 ]

once_kept : (p : Value → Bool) (xs : List Value) → Once xs → Once (filter p xs)
once_kept p [] h = tt
once_kept p (x ∷ xs) h = elim (p x) as (λ b. Once (cond b (x ∷ filter p xs) (filter p xs)))
    [ true ↦ (all_kept _ p xs h.0, once_kept p xs h.1) | false ↦ once_kept p xs h.1 ]

negated : (b : Bool) → not b ≡ true → b ≡ false
negated true e = sym e
negated false e = refl

passing : (x : Value) (xs : List Value) → AllByRecursion (λ other. is_same x other ≡ false)
    (filter (λ other. not (is_same x other)) xs)
passing x [] = grind arith
passing x (y ∷ xs) = grind (arith, negated, passing x xs)

once_distinct : (vals : List Value) → Once (distinct vals)
unfolding distinct
once_distinct [] = grind arith
once_distinct (v ∷ vals) = grind (arith, passing, once_kept, once_distinct vals)

at_index : (P : Value → Type 0) (xs : List Value) (i : ℕ) → AllByRecursion P xs → i < length xs
    → P (get_or xs i (Number 0))
at_index P [] i h below = absurd (omega (arith, below))
at_index P (x ∷ xs) zero h below = h.0
at_index P (x ∷ xs) (suc i) h below = at_index P xs i h.1 (omega (arith, below))

apart_of : (xs : List Value) → Once xs → AreApart xs
apart_of [] h i j i_below j_below e = grind arith
apart_of (x ∷ xs) h zero zero i_below j_below e = grind arith
apart_of (x ∷ xs) h zero (suc j) i_below j_below e = grind (arith, differs_from, at_index)
apart_of (x ∷ xs) h (suc i) zero i_below j_below e = grind (arith, differs_from, at_index)
apart_of (x ∷ xs) h (suc i) (suc j) i_below j_below e = grind (arith, apart_of xs h.1 i j (omega (arith, i_below)) (omega (arith, j_below)) e)

pub distinct_apart : (vals : List Value) → AreApart (distinct vals)
distinct_apart vals = apart_of (distinct vals) (once_distinct vals)

pub distinct_has : (vals : List Value) (v : Value) → Has vals v → Has (distinct vals) v
unfolding distinct
distinct_has [] v h = absurd h
distinct_has (x ∷ vals) v (inl e) = inl e
distinct_has (x ∷ vals) v (inr h) =
    elim (is_same x v) as (λ b. is_same x v ≡ b → Has (x ∷ filter (λ other. not (is_same x other)) (distinct vals)) v) [
      | true ↦ λ e. inl (sym (same_only x v e))
      | false ↦ λ e. inr (has_filter (λ other. not (is_same x other)) (distinct vals) v (ap not e)
          (distinct_has vals v h))
    ] refl

-- what a filter keeps is in the list, and passes
pub kept_has : {X : Type 0} (p : X → Bool) (xs : List X) (v : X) → Has (filter p xs) v → Has xs v × (p v ≡ true)
kept_has p [] v h = grind arith
kept_has p (x ∷ xs) v h = grind (arith, kept_has p xs v)

pub distinct_only : (vals : List Value) (v : Value) → Has (distinct vals) v → Has vals v
unfolding distinct
distinct_only [] v h = absurd h
distinct_only (x ∷ vals) v (inl e) = inl e
distinct_only (x ∷ vals) v (inr h) = inr (distinct_only vals v
    (kept_has (λ other. not (is_same x other)) (distinct vals) v h).0)

-- each of the distinct values is that of a row
pub distinct_used : (rows : List Value) (code : ℕ) → code < length (distinct rows) → IsUsed (codes_of rows) code
distinct_used rows code below =
    let value = get_or (distinct rows) code (Number 0) in
    let at : slice_get (distinct rows) code ≡ Some value = slice_get-get_or (distinct rows) code (Number 0) below in
    let found = has_index rows value (distinct_only rows value (has_at (distinct rows) code value at)) in
    let inside : found.0 < length rows = slice_get_within rows found.0 value found.1 in
    record {
      row = found.0;
      there = omega (arith, inside, length-map rows (code_in (distinct rows)));
      own = get_or-map (code_in (distinct rows)) rows found.0 (Number 0) 0 inside
          ∙ ap (code_in (distinct rows)) (get_or_from_slice_get rows found.0 value (Number 0) found.1)
          ∙ code_is (distinct rows) code value (distinct_apart rows) at;
    }

-- a row's code is that of its value
pub code_reads : (vals : List Value) (p : ℕ) (v : Value) → slice_get vals p ≡ Some v
    → slice_get (distinct vals) (code_in (distinct vals) v) ≡ Some v
code_reads vals p v at =
    let there = has_index (distinct vals) v (distinct_has vals v (has_at vals p v at)) in
    ap (slice_get (distinct vals)) (code_is (distinct vals) there.0 v (distinct_apart vals) there.1) ∙ there.1

-- every row's code is that of a value
pub codes_within : (rows : List Value) (k d : ℕ) → k < length (codes_of rows)
    → get_or (codes_of rows) k d < length (distinct rows)
codes_within rows k d below =
    let inside : k < length rows = omega (arith, below, length-map rows (code_in (distinct rows))) in
    let value = get_or rows k (Number 0) in
    let read = code_reads rows k value (slice_get-get_or rows k (Number 0) inside) in
    let is : get_or (codes_of rows) k d ≡ code_in (distinct rows) value =
    get_or-map (code_in (distinct rows)) rows k (Number 0) d inside in
    omega (arith, is, slice_get_within (distinct rows) (code_in (distinct rows) value) value read)

pub distinct_few : (vals : List Value) → length (distinct vals) ≤ length vals
unfolding distinct
distinct_few [] = grind arith
distinct_few (v ∷ vals) = grind (arith, length-filter, count_by-le-length, distinct_few vals)

-- The first fault of a list, element by element.
use Rattle.std.proofs.Common.{◌≡◌, ℕ, ◌+◌, ◌<◌, ◌≤◌, zero, suc, List, [], ◌∷◌, length, drop, get_or, refl, ap, sym, ◌∙◌}
use Rattle.std.proofs.Common.{drop-cons, add-one, arith}
use Rattle.std.specs.Prelude.{Option, Some, None, slice_get}
use Rattle.std.specs.Option.{option_or}
use Rattle.std.proofs.Math.Seq.{drop-length}
use Rattle.std.proofs.lemmas.Option.{slice_get-get_or, get_or_from_slice_get}
use Rattle.ssb_audit.specs.declared.fault.AuditFault.{AuditFault}
use Rattle.ssb_audit.specs.Traces.{first_from}

-- the rest of a list begins with the element at its place
pub rest_from : {X : Type 0} (xs : List X) (i : ℕ) (x : X) → i < length xs → x ≡ get_or xs i x
    → drop i xs ≡ x ∷ drop (i + 1) xs
rest_from xs i x within is =
    rw add-one (drop-cons xs i x within ∙ ap (λ y. y ∷ drop (suc i) xs) (sym is))

-- an element without a fault leaves the first fault to the others
pub first_passes : {X : Type 0} (judge : ℕ → X → Option AuditFault) (xs : List X) (i : ℕ) (x : X)
    → i < length xs → x ≡ get_or xs i x → judge i x ≡ None
    → first_from judge i (drop i xs) ≡ first_from judge (i + 1) (drop (i + 1) xs)
first_passes judge xs i x within is none =
    ap (first_from judge i) (rest_from xs i x within is)
    ∙ ap (λ o. option_or o (first_from judge (i + 1) (drop (i + 1) xs))) none

-- the fault of an element comes before those of the others
pub first_stops : {X : Type 0} (judge : ℕ → X → Option AuditFault) (xs : List X) (i : ℕ) (x : X) (e : AuditFault)
    → i < length xs → x ≡ get_or xs i x → judge i x ≡ Some e → first_from judge i (drop i xs) ≡ Some e
first_stops judge xs i x e within is some =
    ap (first_from judge i) (rest_from xs i x within is)
    ∙ ap (λ o. option_or o (first_from judge (i + 1) (drop (i + 1) xs))) some

-- past the last element there is no fault
pub first_ends : {X : Type 0} (judge : ℕ → X → Option AuditFault) (xs : List X) (i : ℕ) → i ≡ length xs
    → first_from judge i (drop i xs) ≡ None
first_ends judge xs i is = ap (first_from judge i) (ap (λ n. drop n xs) is ∙ drop-length xs)

-- elements without a fault leave the first fault to the others
pub first_clear : {X : Type 0} (judge : ℕ → X → Option AuditFault) (xs : List X) (n : ℕ) → n ≤ length xs
    → ((i : ℕ) (x : X) → i < n → slice_get xs i ≡ Some x → judge i x ≡ None)
    → first_from judge 0 xs ≡ first_from judge n (drop n xs)
first_clear judge xs zero within clear = refl
first_clear judge xs (suc n) within clear =
    let less : n < length xs = omega (arith, within) in
    let before : n ≤ length xs = omega (arith, within) in
    first_clear judge xs n before (λ i x lt. clear i x (omega (arith, lt)))
    ∙ first_passes judge xs n (get_or xs n (first_of xs less)) less (sym (same_read xs n (first_of xs less) less))
    (clear n (get_or xs n (first_of xs less)) (omega arith) (slice_get-get_or xs n (first_of xs less) less))
    ∙ ap (λ m. first_from judge m (drop m xs)) (add-one n)
  where
    first_of : {X : Type 0} (xs : List X) {n : ℕ} → n < length xs → X
    first_of [] lt = absurd (omega (arith, lt))
    first_of (x ∷ xs) lt = x

    same_read : {X : Type 0} (xs : List X) (n : ℕ) (d : X) → n < length xs → get_or xs n (get_or xs n d) ≡ get_or xs n d
    same_read xs n d lt = get_or_from_slice_get xs n (get_or xs n d) (get_or xs n d) (slice_get-get_or xs n d lt)

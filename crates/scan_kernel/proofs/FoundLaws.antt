-- The places that were found stand for all of their range, and one range follows another.
use Rattle.std.proofs.Common.{◌≡◌, ℕ, zero, suc, ◌+◌, ◌-◌, ◌<◌, ◌≤◌, Bool, true, false, cond, List, [], ◌∷◌, ◌++◌}
use Rattle.std.proofs.Common.{length, get_or, eqb, ltb, map, arith, refl, ap, sym, ◌∙◌, subst, zero-add, add-zero}
use Rattle.std.specs.Int.{bit_at}
use Rattle.std.specs.List.{All, filter, range_with_len}
use Rattle.std.proofs.lemmas.Bool.{lt-ltb, false≢true}
use Rattle.std.proofs.lemmas.List.{get_or-map, length-map}
use Rattle.std.proofs.lemmas.List.Elements.{All-from_get_or}
use Rattle.std.proofs.lemmas.List.FromFn.{length-range_with_len, get_or-range_with_len}
use Rattle.std.proofs.lemmas.Nat.Bits.{bit_at-zero}

pub all_mapped : (A B : Type 0) (P : B → Type 0) (f : A → B) (xs : List A) → All (λ x. P (f x)) xs → All P (map f xs)
all_mapped A B P f xs h k d below =
    let within : k < length xs = omega (arith, length-map xs f) in
    go within (get_or_any xs k within) where
      get_or_any : (ys : List A) (k : ℕ) → k < length ys → A
      get_or_any [] k below = absurd (omega (arith, below))
      get_or_any (y ∷ ys) zero below = y
      get_or_any (y ∷ ys) (suc k) below = y

      go : k < length xs → A → P (get_or (map f xs) k d)
      go within x = subst P (sym (get_or-map f xs k x d within)) (h k x within)

filter_cons : (p q : ℕ → Bool) → ((i : ℕ) → q i ≡ false → p i ≡ false) → (x : ℕ) (xs : List ℕ)
    → filter p (filter q xs) ≡ filter p xs → (b : Bool) → q x ≡ b
    → filter p (cond (q x) (x ∷ filter q xs) (filter q xs)) ≡ filter p (x ∷ xs)
filter_cons p q out x xs h true e = rw (e, h) refl
filter_cons p q out x xs h false e = rw (e, out x e, h) refl

filter_twice : (p q : ℕ → Bool) → ((i : ℕ) → q i ≡ false → p i ≡ false) → (xs : List ℕ)
    → filter p (filter q xs) ≡ filter p xs
filter_twice p q out [] = refl
filter_twice p q out (x ∷ xs) = filter_cons p q out x xs (filter_twice p q out xs) (q x) refl

-- a place with no bit at all has not this one
pub found_are_all : (mask : ℕ → ℕ) (k : ℕ) (xs : List ℕ)
    → filter (λ i. eqb (bit_at (mask i) k) 1) (filter (λ i. ltb 0 (mask i)) xs) ≡ filter
    (λ i. eqb (bit_at (mask i) k) 1) xs
found_are_all mask k xs = grind (arith, filter_twice, eqb, ltb, false≢true, lt-ltb, bit_at-zero)

all_push : (Q : ℕ → Type 0) (x : ℕ) (xs : List ℕ) → Q x → All Q xs → All Q (x ∷ xs)
all_push Q x xs here more zero d below = here
all_push Q x xs here more (suc k) d below = more k d (omega (arith, below))

filter_all_step : (Q : ℕ → Type 0) (x : ℕ) (xs : List ℕ) (b : Bool) → (b ≡ true → Q x) → All Q xs
    → All Q (cond b (x ∷ xs) xs)
filter_all_step Q x xs true here more = all_push Q x xs (here refl) more
filter_all_step Q x xs false here more = more

-- what passes a filter is in the list, and passes
pub filter_all : (P Q : ℕ → Type 0) (p : ℕ → Bool) → ((i : ℕ) → P i → p i ≡ true → Q i) → (xs : List ℕ) → All P xs
    → All Q (filter p xs)
filter_all P Q p imply [] h = λ k d below. absurd (omega (arith, below))
filter_all P Q p imply (x ∷ xs) h =
    filter_all_step Q x (filter p xs) (p x) (imply x (h 0 x (omega arith)))
    (filter_all P Q p imply xs (λ k d below. h (suc k) d (omega (arith, below))))

pub all_in_range : (a n e : ℕ) → a + n ≤ e → All (λ i. i < e) (range_with_len a n)
all_in_range a n e le = All-from_get_or (λ (i : ℕ). i < e) (range_with_len a n) 0
    (λ i h. let j : i < n = omega (arith, length-range_with_len a n) in
    rw (get_or-range_with_len a n i 0 j) (omega arith))

range_append : (a n m : ℕ) → range_with_len a n ++ range_with_len (a + n) m ≡ range_with_len a (n + m)
range_append a zero m = rw (add-zero a, zero-add m) refl
range_append a (suc n) m =
    let s : a + suc n ≡ a + 1 + n = omega arith in
    let t : suc n + m ≡ suc (n + m) = omega arith in
    rw (s, t) (ap (λ (ys : List ℕ). a ∷ ys) (range_append (a + 1) n m))

-- one range after another
pub range_on : (a b e : ℕ) → a ≤ b → b ≤ e → range_with_len a (b - a)
    ++ range_with_len b (e - b) ≡ range_with_len a (e - a)
range_on a b e le more =
    let s : b - a + (e - b) ≡ e - a = omega arith in
    let j : a + (b - a) ≡ b = omega arith in
    ap (λ (v : ℕ). range_with_len a (b - a) ++ range_with_len v (e - b)) (sym j) ∙ range_append a (b - a) (e - b)
    ∙ ap (range_with_len a) s

pub range_first : (b e : ℕ) → b ≤ e → range_with_len 0 b ++ range_with_len b (e - b) ≡ range_with_len 0 e
range_first b e more =
    let s : b + (e - b) ≡ e = omega arith in
    ap (λ (v : ℕ). range_with_len 0 b ++ range_with_len v (e - b)) (sym (zero-add b)) ∙ range_append 0 b (e - b)
    ∙ ap (range_with_len 0) s

-- one number more
pub range_push : (n : ℕ) → range_with_len 0 (n + 1) ≡ range_with_len 0 n ++ n ∷ []
range_push n =
    sym (range_append 0 n 1) ∙ ap (λ (v : ℕ). range_with_len 0 n ++ range_with_len v 1) (zero-add n)

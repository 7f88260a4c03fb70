-- A group's sum over places, one place more at a time, and one list of places after another.
use Rattle.std.proofs.Common.{◌≡◌, ℕ, ◌+◌, ◌%◌, ◌^◌, ◌<◌, ◌≢◌, Bool, cond, List, [], ◌∷◌, ◌++◌, length}
use Rattle.std.proofs.Common.{get_or, eqb, arith, refl, ap, sym, ◌∙◌, subst, ◌⊎◌, eq-eqb, add-zero, zero-add}
use Rattle.std.proofs.Common.{take, map}
use Rattle.std.proofs.Math.Nat.{mod-mod, mod-add-mod, add-mod-mod}
use Rattle.std.proofs.lemmas.Bool.Decides.{eqb_tells}
use Rattle.std.proofs.lemmas.List.{get_or-set_same, get_or-set_other, length-set, take_more, get_or-map}
use Rattle.std.proofs.lemmas.List.{length-replicate, get_or-replicate}
use Rattle.std.proofs.lemmas.List.Elements.{filter-append}
use Rattle.std.proofs.lemmas.List.Sums.{sum_by-append}
use Rattle.std.specs.Prelude.{replicate}
use Rattle.std.specs.List.{filter, sum_by}
use Rattle.scan_kernel.specs.Sums.{sum_in, Adds, Merges, add_at}

pub sum_in-append : (amount group : ℕ → ℕ) (g : ℕ) (xs ys : List ℕ)
    → sum_in amount group g (xs ++ ys) ≡ sum_in amount group g xs + sum_in amount group g ys
sum_in-append amount group g xs ys =
    let p : ℕ → Bool = λ i. eqb (group i) g in
    ap (sum_by amount) (filter-append p xs ys) ∙ sum_by-append amount (filter p xs) (filter p ys)

sum_in_one : (amount group : ℕ → ℕ) (g x : ℕ) → sum_in amount group g (x ∷ []) ≡ cond (eqb (group x) g) (amount x) 0
sum_in_one amount group g x = grind (arith, eqb)

sum_in_push : (amount group : ℕ → ℕ) (g : ℕ) (xs : List ℕ) (x : ℕ)
    → sum_in amount group g (xs ++ x ∷ []) ≡ sum_in amount group g xs + cond (eqb (group x) g) (amount x) 0
sum_in_push amount group g xs x = sum_in-append amount group g xs (x ∷ [])
    ∙ ap (λ (v : ℕ). sum_in amount group g xs + v) (sum_in_one amount group g x)

pub adds_none : (amount group : ℕ → ℕ) (old : List ℕ) → Adds amount group [] old old
adds_none amount group old = record { len = refl; each = λ g h. ap (λ (v : ℕ). v % 2 ^ 64) (omega arith) }

-- amounts of 0 add nothing
sum_of_zeros : (places : List ℕ) → sum_by (λ (i : ℕ). 0) places ≡ 0
sum_of_zeros [] = refl
sum_of_zeros (place ∷ places) = sum_of_zeros places

pub adds_zeros : (group : ℕ → ℕ) (places old : List ℕ) → Adds (λ place. 0) group places old old
adds_zeros group places old = grind (arith, sum_of_zeros, eqb, add-zero)

carried : (m a b s x : ℕ) → a % m ≡ (b + s) % m → (a + x) % m % m ≡ (b + (s + x)) % m
carried m a b s x e =
    let r : b + (s + x) ≡ b + s + x = omega arith in
    mod-mod (a + x) m ∙ sym (mod-add-mod a m x) ∙ ap (λ (v : ℕ). (v + x) % m) e ∙ mod-add-mod (b + s) m x
    ∙ ap (λ (v : ℕ). v % m) (sym r)

adds_one : (amount group : ℕ → ℕ) (xs : List ℕ) (x : ℕ) (old mid : List ℕ) → Adds amount group xs old mid
    → group x < length old → Adds amount group (xs ++ x ∷ []) old (add_at mid (group x) (amount x))
adds_one amount group xs x old mid h room = grind (arith, length-set, eqb_tells, eqb, eq-eqb, sum_in_push, get_or-set_same, carried, get_or-set_other, add-zero)

-- a loop over places, whose groups stand in a list, has added one place more
pub adds_more : (amount group : ℕ → ℕ) (places groups : List ℕ) (n : ℕ) (old mid new : List ℕ) (g r : ℕ)
    → groups ≡ map group places → Adds amount group (take n places) old mid → n < length places
    → get_or groups n 0 < length old
    → g ≡ get_or groups n 0 → r ≡ amount (get_or places n 0) → new ≡ add_at mid g r
    → Adds amount group (take (n + 1) places) old new
adds_more amount group places groups n old mid new g r are h below room g_is r_is is =
    let at : get_or groups n 0 ≡ group (get_or places n 0) =
    ap (λ (xs : List ℕ). get_or xs n 0) are ∙ get_or-map group places n 0 0 below in
    let room : group (get_or places n 0) < length old = subst (λ (v : ℕ). v < length old) at room in
    rw (take_more places n 0 below, is, g_is, at, r_is)
    (adds_one amount group (take n places) (get_or places n 0) old mid h room)

-- one list of places after another
pub adds_append : (amount group : ℕ → ℕ) (xs ys old mid new : List ℕ) → Adds amount group xs old mid
    → Adds amount group ys mid new → Adds amount group (xs ++ ys) old new
adds_append amount group xs ys old mid new h k = grind (arith, mod-add-mod, sum_in-append)

-- two parts that were each added to nothing
pub adds_merged : (amount group : ℕ → ℕ) (groups : ℕ) (xs ys left right new : List ℕ)
    → Adds amount group xs (replicate groups 0) left → Adds amount group ys (replicate groups 0) right
    → Merges left right new → Adds amount group (xs ++ ys) (replicate groups 0) new
adds_merged amount group groups xs ys left right new h k m =
    adds_append amount group xs ys (replicate groups 0) left new h (record { len = m.len; each = each }) where
      each : (g : ℕ) → g < length left → get_or new g 0 % 2 ^ 64 ≡ (get_or left g 0 + sum_in amount group g ys) % 2 ^ 64
      each g below =
          let s = sum_in amount group g ys in
          let here : g < groups = omega (arith, h.len, length-replicate {A = ℕ} groups 0) in
          let there : g < length (replicate groups 0) = omega (arith, length-replicate {A = ℕ} groups 0) in
          let zero_is : get_or (replicate groups 0) g 0 ≡ 0 = get_or-replicate groups g 0 0 here in
          let right_is : get_or right g 0 % 2 ^ 64 ≡ s % 2 ^ 64 =
          k.each g there ∙ ap (λ (v : ℕ). (v + s) % 2 ^ 64) zero_is ∙ ap (λ (v : ℕ). v % 2 ^ 64) (zero-add s) in
          ap (λ (v : ℕ). v % 2 ^ 64) (m.each g below) ∙ mod-mod (get_or left g 0 + get_or right g 0) (2 ^ 64)
          ∙ sym (add-mod-mod (get_or left g 0) (get_or right g 0) (2 ^ 64))
          ∙ ap (λ (v : ℕ). (get_or left g 0 + v) % 2 ^ 64) right_is ∙ add-mod-mod (get_or left g 0) s (2 ^ 64)

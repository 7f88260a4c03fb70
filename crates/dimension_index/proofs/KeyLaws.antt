-- The base finds a row where its key stands.
use Rattle.std.proofs.Common.{◌≡◌, ℕ, ◌<◌, Bool, true, false, cond, List, [], ◌∷◌, length, map, get_or, Option, Some}
use Rattle.std.proofs.Common.{None, zero, suc, sym, refl, ap, ◌∙◌, arith}
use Rattle.std.specs.Prelude.{nat_lt, nat_eq, ◌||◌, is_some}
use Rattle.std.specs.Option.{option_and_then}
use Rattle.std.specs.List.{slice_get, position_or_len}
use Rattle.std.proofs.lemmas.List.{get_or-map, length-map}
use Rattle.std.proofs.lemmas.List.Sums.{position_or_len_is}
use Rattle.std.proofs.lemmas.Bool.{eqb-true, eq-eqb, ne_eqb, lt-ltb, le-ltb}
use Rattle.std.proofs.lemmas.Bool.Decides.{nat_tests}
use Rattle.std.proofs.lemmas.Option.{slice_get-get_or, slice_get_within, get_or_from_slice_get}
use Rattle.ssb_schema.specs.FirstFault.{AreDistinct}
use Rattle.ssb_base.specs.Base.{has_key_of, has_key, row_with}
use Rattle.dimension_index.specs.Keys.{position_in}

-- a key that no earlier one equals stands first where it stands
position_at : (keys : List ℕ) (i : ℕ) → i < length keys → ((j : ℕ) → j < i → get_or keys j 0 ≡ get_or keys i 0 → ⊥)
    → position_in keys (get_or keys i 0) ≡ Some i
position_at keys i within first = grind (arith, position_or_len_is, ne_eqb, eq-eqb, lt-ltb)

-- a key that no row has stands nowhere
position_nowhere : {R : Type 0} (key : R → ℕ) (rows : List R) (k : ℕ) → has_key key rows k ≡ false
    → position_in (map key rows) k ≡ None
position_nowhere {R = R} key rows k absent =
    let keys = map key rows in
    let p : ℕ → Bool = λ own. nat_eq own k in
    let here : position_or_len p keys ≡ length keys = position_or_len_is p keys (length keys) 0 (omega arith)
    (λ j lt. fails rows absent j lt) (λ lt. absurd (omega (arith, lt))) in
    ap (λ n. cond (nat_lt n (length keys)) (Some n) None) here
    ∙ ap (λ b. cond b (Some (length keys)) None) (le-ltb (length keys) (length keys) (omega arith))
  where
    neither : (a b : Bool) → (a || b) ≡ false → (a ≡ false) × (b ≡ false)
    neither true b e = absurd (cc)
    neither false b e = (refl, e)

    fails : (rows : List R) → has_key key rows k ≡ false → (j : ℕ) → j < length (map key rows)
        → nat_eq (get_or (map key rows) j 0) k ≡ false
    fails [] none j lt = absurd (omega (arith, lt))
    fails (row ∷ rows) none zero lt = (neither (nat_eq (key row) k) (has_key key rows k) none).0
    fails (row ∷ rows) none (suc j) lt = fails rows (neither (nat_eq (key row) k) (has_key key rows k) none).1 j
        (omega (arith, lt))

-- distinct rows have distinct keys
keys_differ : {R : Type 0} (key : R → ℕ) (rows : List R) (d : R) → AreDistinct (has_key_of key) rows → (i j : ℕ) → i < j
    → j < length rows → get_or (map key rows) i 0 ≡ get_or (map key rows) j 0 → ⊥
keys_differ key rows d distinct i j lt within same =
    let one = get_or-map key rows i d 0 (omega (arith, lt, within)) in
    let two = get_or-map key rows j d 0 within in
    let apart = distinct i j (get_or rows i d) (get_or rows j d) lt
    (slice_get-get_or rows i d (omega (arith, lt, within))) (slice_get-get_or rows j d within) in
    grind (arith, nat_tests, apart, one, two, same)

pub keys_apart : {R : Type 0} (key : R → ℕ) (rows : List R) → AreDistinct (has_key_of key) rows → (i j : ℕ) → i < j
    → j < length rows → get_or (map key rows) i 0 ≡ get_or (map key rows) j 0 → ⊥
keys_apart key [] distinct i j lt within same = absurd (omega (arith, within))
keys_apart key (row ∷ rows) distinct i j lt within same =
    keys_differ key (row ∷ rows) row distinct i j lt within same

-- the row that is found has the key
found_has : {R : Type 0} (key : R → ℕ) (rows : List R) (k : ℕ) → has_key key rows k ≡ true → (row : R)
    × (row_with key rows k ≡ Some row) × (key row ≡ k)
found_has {R = R} key [] k some = grind arith
found_has {R = R} key (row ∷ rows) k some = grind (arith, eqb-true, found_has key rows k)

-- the place that the base tells is where the key stands, and is within
pub position_found : {R : Type 0} (key : R → ℕ) (rows : List R) (k : ℕ) (place : Option ℕ)
    → AreDistinct (has_key_of key) rows → option_and_then (slice_get rows) place ≡ row_with key rows k
    → is_some place ≡ has_key key rows k → place ≡ position_in (map key rows) k
position_found key rows k None distinct row found = sym (position_nowhere key rows k (sym found))
position_found key rows k (Some i) distinct row found =
    let there = found_has key rows k (sym found) in
    let at : slice_get rows i ≡ Some there.0 = row ∙ there.1 in
    let within : i < length rows = slice_get_within rows i there.0 at in
    let is : get_or (map key rows) i 0 ≡ k = get_or-map key rows i there.0 0 within
    ∙ ap key (get_or_from_slice_get rows i there.0 there.0 at) ∙ there.2 in
    sym (ap (position_in (map key rows)) (sym is) ∙ position_at (map key rows) i
    (omega (arith, within, length-map rows key)) (λ j lt. keys_differ key rows there.0 distinct j i lt within))

pub position_within : {R : Type 0} (key : R → ℕ) (rows : List R) (k i : ℕ)
    → option_and_then (slice_get rows) (Some i) ≡ row_with key rows k → is_some (Some i) ≡ has_key key rows k
    → i < length rows
position_within key rows k i row found = grind (arith, found_has, slice_get_within)

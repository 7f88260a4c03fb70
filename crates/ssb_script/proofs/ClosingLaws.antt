-- A last field of no bytes, as code finds it from the end.
use Rattle.std.proofs.Common.{◌≡◌, ◌∙◌, ℕ, ◌-◌, ◌≤◌, Bool, true, false, cond, nat_eq, List, [], ◌∷◌, length, map, take}
use Rattle.std.proofs.Common.{get_or, refl, sym, ap, arith}
use Rattle.ssb_script.specs.Lines.{without_closing}

behind : {A : Type 0} (b : Bool) (x : A) (one other : List A) → x ∷ cond b one other ≡ cond b (x ∷ one) (x ∷ other)
behind true x one other = refl
behind false x one other = refl

closing : {A : Type 0} (f : A → List ℕ) (x : A) (xs : List A) (d : A) → without_closing (map f (x ∷ xs))
    ≡ cond (nat_eq (length (f (get_or (x ∷ xs) (length xs) d))) 0) (map f (take (length xs) (x ∷ xs))) (map f (x ∷ xs))
unfolding without_closing
closing f x [] d = grind arith
closing f x (y ∷ xs) d = grind (arith, behind, nat_eq, closing f y xs d)

-- the fields but the last, where it has no bytes; else all
pub last_dropped : {A : Type 0} (f : A → List ℕ) (fields : List A) (d : A) → 1 ≤ length fields
    → nat_eq (length (f (get_or fields (length fields - 1) d))) 0 ≡ true
    → map f (take (length fields - 1) fields) ≡ without_closing (map f fields)
last_dropped f [] d some none = absurd (let no : 1 ≤ 0 = some in omega (arith, no))
last_dropped f (x ∷ xs) d some none =
    let count : length (x ∷ xs) - 1 ≡ length xs = omega arith in
    let last : nat_eq (length (f (get_or (x ∷ xs) (length xs) d))) 0 ≡ true =
    ap (λ n. nat_eq (length (f (get_or (x ∷ xs) n d))) 0) (sym count) ∙ none in
    ap (λ n. map f (take n (x ∷ xs))) count
    ∙ sym (closing f x xs d
    ∙ ap (λ b. cond b (map f (take (length xs) (x ∷ xs))) (map f (x ∷ xs))) last)

pub last_kept : {A : Type 0} (f : A → List ℕ) (fields : List A) (d : A) → 1 ≤ length fields
    → nat_eq (length (f (get_or fields (length fields - 1) d))) 0 ≡ false
    → map f fields ≡ without_closing (map f fields)
last_kept f [] d some bytes = absurd (let no : 1 ≤ 0 = some in omega (arith, no))
last_kept f (x ∷ xs) d some bytes =
    let count : length (x ∷ xs) - 1 ≡ length xs = omega arith in
    let last : nat_eq (length (f (get_or (x ∷ xs) (length xs) d))) 0 ≡ false =
    ap (λ n. nat_eq (length (f (get_or (x ∷ xs) n d))) 0) (sym count) ∙ bytes in
    sym (closing f x xs d
    ∙ ap (λ b. cond b (map f (take (length xs) (x ∷ xs))) (map f (x ∷ xs))) last)

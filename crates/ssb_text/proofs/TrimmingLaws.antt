-- Laws of the spaces at a field's end.
use Rattle.std.proofs.Common.{◌≡◌, ◌<◌, ◌≤◌, ℕ, ◌+◌, ◌-◌, Bool, true, false, ◌&&◌, nat_eq, List, [], ◌∷◌, ◌++◌, length}
use Rattle.std.proofs.Common.{take, get_or, refl, sym, ◌∙◌, ap, arith}
use Rattle.std.specs.List.{list_all}
use Rattle.std.specs.Prelude.{◌==◌}
use Rattle.std.proofs.lemmas.List.{take_more}
use Rattle.std.proofs.lemmas.List.Folds.{list_all-append}
use Rattle.ssb_text.specs.Spelling.{without_spaces}

and_false : (b : Bool) → (b && false) ≡ false
and_false true = refl
and_false false = refl

and_true : (b : Bool) → (b && true) ≡ b
and_true true = refl
and_true false = refl

abbrev is_space : ℕ → Bool
is_space c = c == 32

all_spaces-space : (bytes : List ℕ) → list_all is_space (bytes ++ 32 ∷ []) ≡ list_all is_space bytes
all_spaces-space bytes = list_all-append is_space bytes (32 ∷ []) ∙ and_true (list_all is_space bytes)

all_spaces-other : (bytes : List ℕ) (b : ℕ) → nat_eq b 32 ≡ false → list_all is_space (bytes ++ b ∷ []) ≡ false
all_spaces-other bytes b other = grind (arith, list_all-append, is_space, and_false)

-- a space at the end goes
pub without_spaces-space : (bytes : List ℕ) → without_spaces (bytes ++ 32 ∷ []) ≡ without_spaces bytes
unfolding without_spaces
without_spaces-space [] = refl
without_spaces-space (b ∷ bytes) = rw (all_spaces-space bytes, without_spaces-space bytes) refl

-- another byte at the end stays, and so does all before it
pub without_spaces-other : (bytes : List ℕ) (b : ℕ) → nat_eq b 32 ≡ false → without_spaces (bytes ++ b ∷ []) ≡ bytes
    ++ b ∷ []
unfolding without_spaces
without_spaces-other [] b other = grind arith
without_spaces-other (c ∷ bytes) b other = grind (arith, all_spaces-other, and_false, without_spaces-other bytes b other)

-- the same of a field up to a place
pub without_spaces-step : (field : List ℕ) (end : ℕ) → 0 < end → end ≤ length field → get_or field (end - 1) 0 ≡ 32
    → without_spaces (take (end - 1) field) ≡ without_spaces (take end field)
without_spaces-step field end some within space =
    let count : end - 1 + 1 ≡ end = omega arith in
    let inside : end - 1 < length field = omega arith in
    let last : take end field ≡ take (end - 1) field ++ 32 ∷ [] =
    ap (λ n. take n field) (sym count) ∙ take_more field (end - 1) 0 inside ∙ rw space refl in
    sym (ap without_spaces last ∙ without_spaces-space (take (end - 1) field))

pub without_spaces-stops : (field : List ℕ) (end : ℕ) → 0 < end → end ≤ length field
    → nat_eq (get_or field (end - 1) 0) 32 ≡ false → without_spaces (take end field) ≡ take end field
without_spaces-stops field end some within other =
    let count : end - 1 + 1 ≡ end = omega arith in
    let inside : end - 1 < length field = omega arith in
    let last : take end field ≡ take (end - 1) field ++ get_or field (end - 1) 0 ∷ [] =
    ap (λ n. take n field) (sym count) ∙ take_more field (end - 1) 0 inside in
    rw last (without_spaces-other (take (end - 1) field) (get_or field (end - 1) 0) other)

-- a field of which nothing is left
pub nothing_left : (field : List ℕ) → without_spaces (take 0 field) ≡ without_spaces field
    → take 0 field ≡ without_spaces field
unfolding without_spaces
nothing_left [] e = refl
nothing_left (b ∷ field) e = e

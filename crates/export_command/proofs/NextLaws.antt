-- The first elements of a list, and the next.
use Rattle.std.proofs.Common.{◌≡◌, ℕ, ◌+◌, ◌<◌, List, [], ◌∷◌, ◌++◌, length, take, drop, get_or}
use Rattle.std.proofs.Common.{slice_get, Some, refl, sym, ap, ◌∙◌}
use Rattle.std.proofs.lemmas.List.{take-append-drop, take_more}

pub next_of : {X : Type 0} (xs : List X) (i : ℕ) (x : X) → i < length xs → x ≡ get_or xs i x
    → take (i + 1) xs ≡ take i xs ++ x ∷ []
next_of xs i x within is = take_more xs i x within ∙ ap (λ y. take i xs ++ y ∷ []) (sym is)

-- all elements: the first, the next, and the others
pub all_of : {X : Type 0} (xs : List X) (i : ℕ) (x : X) → i < length xs → x ≡ get_or xs i x → xs ≡ (take i xs ++ x ∷ [])
    ++ drop (i + 1) xs
all_of xs i x within is =
    sym (take-append-drop (i + 1) xs) ∙ ap (λ front. front ++ drop (i + 1) xs) (next_of xs i x within is)

-- the elements at the seam of two lists
pub at_seam : {X : Type 0} (front : List X) (x : X) (back : List X)
    → slice_get (front ++ x ∷ back) (length front) ≡ Some x
at_seam [] x back = refl
at_seam (y ∷ front) x back = at_seam front x back

pub front_of : {X : Type 0} (front back : List X) → take (length front) (front ++ back) ≡ front
front_of [] back = refl
front_of (y ∷ front) back = ap (λ l. y ∷ l) (front_of front back)

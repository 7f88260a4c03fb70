-- Lists that a loop makes of others, one item more at a time.
use Rattle.std.proofs.Common.{◌≡◌, ◌∙◌, ℕ, ◌<◌, ◌+◌, List, [], ◌∷◌, ◌++◌, length, take, get_or, map, ap, refl}
use Rattle.std.proofs.Common.{Option, Some, None, append-nil}
use Rattle.std.specs.List.{filter_map}
use Rattle.std.proofs.lemmas.List.{take_more, map-append}
use Rattle.std.proofs.lemmas.List.Elements.{filter_map-append}

only : {X Y : Type 0} (h : X → Option Y) (x : X) (y : Y) → Some y ≡ h x → filter_map h (x ∷ []) ≡ y ∷ []
only h x y e = rw (← e) refl

nothing : {X Y : Type 0} (h : X → Option Y) (x : X) → None ≡ h x → filter_map h (x ∷ []) ≡ []
nothing h x e = rw (← e) refl

more : {X Y Z : Type 0} (h : Y → Option Z) (f : X → Y) (xs : List X) (i : ℕ) (d : X) → i < length xs
    → filter_map h (map f (take (i + 1) xs)) ≡ filter_map h (map f (take i xs)) ++ filter_map h (f (get_or xs i d) ∷ [])
more h f xs i d lt =
    ap (λ ys. filter_map h (map f ys)) (take_more xs i d lt)
    ∙ ap (filter_map h) (map-append f (take i xs) (get_or xs i d ∷ []))
    ∙ filter_map-append h (map f (take i xs)) (f (get_or xs i d) ∷ [])

-- an item that gives one more
pub gives : {X Y Z : Type 0} (h : Y → Option Z) (f : X → Y) (xs : List X) (i : ℕ) (d : X) (z : Z) → i < length xs
    → Some z ≡ h (f (get_or xs i d))
    → filter_map h (map f (take (i + 1) xs)) ≡ filter_map h (map f (take i xs)) ++ z ∷ []
gives h f xs i d z lt e =
    more h f xs i d lt ∙ ap (λ zs. filter_map h (map f (take i xs)) ++ zs) (only h (f (get_or xs i d)) z e)

-- an item that gives none
pub gives_none : {X Y Z : Type 0} (h : Y → Option Z) (f : X → Y) (xs : List X) (i : ℕ) (d : X) → i < length xs
    → None ≡ h (f (get_or xs i d))
    → filter_map h (map f (take (i + 1) xs)) ≡ filter_map h (map f (take i xs))
gives_none h f xs i d lt e =
    more h f xs i d lt ∙ ap (λ zs. filter_map h (map f (take i xs)) ++ zs) (nothing h (f (get_or xs i d)) e)
    ∙ append-nil (filter_map h (map f (take i xs)))

-- the same without a map
more_of : {X Z : Type 0} (h : X → Option Z) (xs : List X) (i : ℕ) (d : X) → i < length xs
    → filter_map h (take (i + 1) xs) ≡ filter_map h (take i xs) ++ filter_map h (get_or xs i d ∷ [])
more_of h xs i d lt =
    ap (filter_map h) (take_more xs i d lt) ∙ filter_map-append h (take i xs) (get_or xs i d ∷ [])

pub gives_of : {X Z : Type 0} (h : X → Option Z) (xs : List X) (i : ℕ) (d : X) (z : Z) → i < length xs
    → Some z ≡ h (get_or xs i d) → filter_map h (take (i + 1) xs) ≡ filter_map h (take i xs) ++ z ∷ []
gives_of h xs i d z lt e =
    more_of h xs i d lt ∙ ap (λ zs. filter_map h (take i xs) ++ zs) (only h (get_or xs i d) z e)

pub gives_none_of : {X Z : Type 0} (h : X → Option Z) (xs : List X) (i : ℕ) (d : X) → i < length xs
    → None ≡ h (get_or xs i d) → filter_map h (take (i + 1) xs) ≡ filter_map h (take i xs)
gives_none_of h xs i d lt e =
    more_of h xs i d lt ∙ ap (λ zs. filter_map h (take i xs) ++ zs) (nothing h (get_or xs i d) e)
    ∙ append-nil (filter_map h (take i xs))

-- What stands at a place of a list.
use Rattle.std.proofs.Common.{◌≡◌, ℕ, zero, suc, ◌+◌, ◌<◌, List, [], ◌∷◌, length, map, Some, None, refl, sym, ◌∙◌, ap}
use Rattle.std.proofs.Common.{subst, arith}
use Rattle.std.specs.Prelude.{All, slice_get}
use Rattle.std.specs.List.{AllZip, range_with_len}
use Rattle.std.proofs.lemmas.Option.{slice_get_within, get_or_from_slice_get}

pub none_is : {X : Type 0} {x : X} → None ≡ Some x → ⊥
none_is e = cc

pub some_is : {X : Type 0} {x y : X} → Some x ≡ Some y → x ≡ y
some_is e = cc

-- what stands at a place of a mapped list is made of what stands there
pub get_mapped : {X Y : Type 0} (f : X → Y) (xs : List X) (i : ℕ) (y : Y) → slice_get (map f xs) i ≡ Some y → (x : X)
    × (slice_get xs i ≡ Some x) × (f x ≡ y)
get_mapped f [] i y here = absurd (none_is here)
get_mapped f (x ∷ xs) zero y here = (x, refl, some_is here)
get_mapped f (x ∷ xs) (suc i) y here = get_mapped f xs i y here

pub map_at : {X Y : Type 0} (f : X → Y) (xs : List X) (i : ℕ) (x : X) → slice_get xs i ≡ Some x
    → slice_get (map f xs) i ≡ Some (f x)
map_at f [] i x here = absurd (none_is here)
map_at f (y ∷ ys) zero x here = ap (λ z. Some (f z)) (some_is here)
map_at f (y ∷ ys) (suc i) x here = map_at f ys i x here

-- at a place of a row stands what is made of its number
pub row_at : {X : Type 0} (make : ℕ → X) (first n i : ℕ) (x : X) → slice_get (map make (range_with_len first n)) i ≡ Some x
    → x ≡ make (first + i)
row_at make first zero i x here = absurd (none_is here)
row_at make first (suc n) zero x here = sym (some_is here) ∙ ap make (omega arith)
row_at make first (suc n) (suc i) x here = row_at make (first + 1) n i x here ∙ ap make (omega arith)

pub all_at : {X : Type 0} (P : X → Type 0) (xs : List X) (i : ℕ) (x : X) → All P xs → slice_get xs i ≡ Some x → P x
all_at P xs i x all here = subst P (get_or_from_slice_get xs i x x here) (all i x (slice_get_within xs i x here))

pub get_below : {X : Type 0} (xs : List X) (i : ℕ) → i < length xs → (x : X) × (slice_get xs i ≡ Some x)
get_below [] i low = absurd (omega (arith, low))
get_below (x ∷ xs) zero low = (x, refl)
get_below (x ∷ xs) (suc i) low = get_below xs i (omega (arith, low))

-- what stands at the same place of two lists that agree place by place
pub zip_at : {X Y : Type 0} (R : X → Y → Type 0) (xs : List X) (ys : List Y) (i : ℕ) (x : X) (y : Y) → AllZip R xs ys
    → slice_get xs i ≡ Some x → slice_get ys i ≡ Some y → R x y
zip_at R [] ys i x y all here there = grind (arith, none_is)
zip_at R (a ∷ xs) [] i x y all here there = grind (arith, none_is)
zip_at R (a ∷ xs) (b ∷ ys) zero x y all here there = grind (arith, some_is)
zip_at R (a ∷ xs) (b ∷ ys) (suc i) x y all here there = grind (arith, zip_at R xs ys i x y all.1 here there)

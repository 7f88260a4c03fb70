-- Lists that a loop makes of others, one item more at a time, and texts put together.
use Rattle.std.proofs.Common.{◌≡◌, ◌∙◌, ℕ, ◌<◌, ◌+◌, List, [], ◌∷◌, ◌++◌, map, flat_map, ap, refl}
use Rattle.std.specs.List.{join_by}

-- texts are joined by what they hold
held : {X : Type 0} (f : X → List ℕ) (between : List ℕ) (xs : List X)
    → flat_map (λ x. between ++ f x) xs ≡ flat_map (λ t. between ++ t) (map f xs)
held f between [] = refl
held f between (x ∷ xs) = ap (λ t. (between ++ f x) ++ t) (held f between xs)

pub joined_by : {X : Type 0} (f : X → List ℕ) (between : List ℕ) (xs : List X)
    → join_by f between xs ≡ join_by (λ t. t) between (map f xs)
joined_by f between [] = refl
joined_by f between (x ∷ xs) = ap (λ t. f x ++ t) (held f between xs)

-- three texts, one after another
pub three_joined : (a b c x y z : List ℕ) → a ≡ x → b ≡ y → c ≡ z → a ++ (b ++ c) ≡ x ++ (y ++ z)
three_joined a b c x y z first second third = rw (first, second, third) refl

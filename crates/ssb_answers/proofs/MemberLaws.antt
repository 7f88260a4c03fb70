use Rattle.std.proofs.Common.{arith}
-- The members of a list.
use Rattle.std.proofs.Common.{◌≡◌, List, [], ◌∷◌, map, Bool, true, sym, refl, ap, ◌∙◌, subst, inl, inr}
use Rattle.std.specs.Prelude.{filter, IsPermutation}
use Rattle.std.specs.List.{AllByRecursion}
use Rattle.std.proofs.lemmas.List.Elements.{All-from_recursion, recursion_from_All}
use Rattle.std.proofs.lemmas.List.Sorted.{All-permutation, IsPermutation-sym}
use Rattle.ssb_questions.specs.Members.{Has, HaveSameMembers}

pub has_map : {X Y : Type 0} (f : X → Y) (xs : List X) (x : X) → Has xs x → Has (map f xs) (f x)
has_map f [] x h = h
has_map f (y ∷ xs) x (inl e) = inl (ap f e)
has_map f (y ∷ xs) x (inr h) = inr (has_map f xs x h)

pub has_from_map : {X Y : Type 0} (f : X → Y) (xs : List X) (y : Y) → Has (map f xs) y → (x : X) × Has xs x × (y ≡ f x)
has_from_map f [] y h = absurd h
has_from_map f (x ∷ xs) y (inl e) = (x, inl refl, e)
has_from_map f (x ∷ xs) y (inr h) = let rest = has_from_map f xs y h in (rest.0, inr rest.1, rest.2)

pub has_filter : {X : Type 0} (p : X → Bool) (xs : List X) (x : X) → p x ≡ true → Has xs x → Has (filter p xs) x
has_filter p [] x t h = grind arith
has_filter p (y ∷ xs) x t (inl e) = grind arith
has_filter p (y ∷ xs) x t (inr h) = grind (arith, has_filter p xs x t h)

pub all_weaker : {X : Type 0} (P Q : X → Type 0) → ((x : X) → P x → Q x) → (xs : List X) → AllByRecursion P xs
    → AllByRecursion Q xs
all_weaker P Q h [] all = tt
all_weaker P Q h (x ∷ xs) all = (h x all.0, all_weaker P Q h xs all.1)

all_has : {X : Type 0} (xs : List X) → AllByRecursion (Has xs) xs
all_has [] = tt
all_has (x ∷ xs) = (inl refl, all_weaker (Has xs) (Has (x ∷ xs)) (λ y h. inr h) xs (all_has xs))

pub all_at : {X : Type 0} (P : X → Type 0) (xs : List X) (z : X) → AllByRecursion P xs → Has xs z → P z
all_at P [] z all h = absurd h
all_at P (x ∷ xs) z all (inl e) = subst P (sym e) all.0
all_at P (x ∷ xs) z all (inr h) = all_at P xs z all.1 h

pub has_permutation : {X : Type 0} (xs ys : List X) → IsPermutation xs ys → (z : X) → Has ys z → Has xs z
has_permutation xs ys moved z h = all_at (Has xs) ys z
    (recursion_from_All (Has xs) ys
    (All-permutation (Has xs) xs ys moved (All-from_recursion (Has xs) xs (all_has xs)))) h

pub same_members_permutation : {X : Type 0} (xs ys : List X) → IsPermutation xs ys → HaveSameMembers xs ys
same_members_permutation xs ys moved = record {
  forth = has_permutation ys xs
      (IsPermutation-sym xs ys moved);
  back = has_permutation xs ys moved;
}

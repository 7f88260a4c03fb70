-- What a loop that looks at each of a list has shown.
use Rattle.std.proofs.Common.{◌≡◌, ℕ, ◌+◌, ◌<◌, ◌≤◌, List, length, get_or, take, All, subst}
use Rattle.std.specs.List.{AllByRecursion}
use Rattle.std.proofs.lemmas.List.{take_all}
use Rattle.std.proofs.lemmas.List.Elements.{All-more, recursion_from_All}

pub one_more : {X : Type 0} (P : X → Type 0) (xs : List X) (i : ℕ) (x : X) → i < length xs → x ≡ get_or xs i x → P x
    → All P (take i xs) → All P (take (i + 1) xs)
one_more P xs i x within is holds all = All-more P xs i x within all (subst P is holds)

pub each : {X : Type 0} (P : X → Type 0) (xs : List X) (i : ℕ) → length xs ≤ i → All P (take i xs) → All P xs
each P xs i past all = subst (All P) (take_all i xs past) all

pub all_held : {X : Type 0} (P : X → Type 0) (xs held : List X) (i : ℕ) → length xs ≤ i → xs ≡ held → All P (take i xs)
    → AllByRecursion P held
all_held P xs held i past same all =
    subst (AllByRecursion P) same (recursion_from_All P xs (each P xs i past all))

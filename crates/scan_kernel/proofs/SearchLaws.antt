-- Steps of the search, place by place.
use Rattle.std.proofs.Common.{◌≡◌, ℕ, ◌+◌, ◌-◌, ◌<◌, ◌≤◌, Bool, cond, List, [], ◌∷◌, ◌++◌, length, take}
use Rattle.std.proofs.Common.{map, set, ltb, arith, refl}
use Rattle.std.proofs.lemmas.List.{map-id, take_more_set, take-set, append-nil, map_push}
use Rattle.std.proofs.lemmas.List.Elements.{filter-append}
use Rattle.std.proofs.lemmas.List.FromFn.{map-range_with_len_more}
use Rattle.std.proofs.lemmas.Bool.{lt-ltb, le-ltb}
use Rattle.std.specs.List.{filter, range_with_len}

-- Of the places from `from` up to `at`, those whose mask is not 0 stand at the front of `places`, and their masks in
-- `found`.
pub record FoundUpTo (mask : ℕ → ℕ) (from at count : ℕ) (places found : List ℕ) : Type 0 where
  pub fewer : count + from ≤ at
  pub places_are : take count places ≡ filter (λ i. ltb 0 (mask i)) (range_with_len from (at - from))
  pub masks_are : take count found ≡ map mask (take count places)

pub range_more : (a n : ℕ) → range_with_len a (n + 1) ≡ range_with_len a n ++ (a + n) ∷ []
range_more a n = simp map-id at (map-range_with_len_more (λ (x : ℕ). x) a n (a + n) refl)

pub filter_range_more : (p : ℕ → Bool) (a at : ℕ) → a ≤ at
    → filter p (range_with_len a (at + 1 - a)) ≡ filter p (range_with_len a (at - a)) ++ cond (p at) (at ∷ []) []
filter_range_more p a at le = grind (arith, range_more, filter-append)

pub found_first : (mask : ℕ → ℕ) (from : ℕ) (places found : List ℕ) → FoundUpTo mask from from 0 places found
found_first mask from places found =
    let s : from - from ≡ 0 = omega arith in
    record { fewer = omega arith; places_are = rw s refl; masks_are = refl }

pub found_some : (mask : ℕ → ℕ) (from at count next m : ℕ) (places found : List ℕ)
    → FoundUpTo mask from at count places found
    → count < length places → count < length found → m ≡ mask at → 0 < m → next ≡ count + 1
    → FoundUpTo mask from (at + 1) next (set places count at) (set found count m)
found_some mask from at count next m places found h room marks is some one = grind (arith, ltb, lt-ltb, filter_range_more, take_more_set, map_push)

pub found_none : (mask : ℕ → ℕ) (from at count next m : ℕ) (places found : List ℕ)
    → FoundUpTo mask from at count places found
    → m ≡ mask at → m ≡ 0 → next ≡ count
    → FoundUpTo mask from (at + 1) next (set places count at) (set found count m)
found_none mask from at count next m places found h is none one = grind (arith, ltb, le-ltb, filter_range_more, append-nil, take-set)

-- Sums by group, modulo 2^64.
use Rattle.std.specs.Prelude.{ℕ, ◌≡◌, ◌<◌, ◌+◌, ◌%◌, ◌^◌, nat_eq, List, length, filter, slice_index, slice_set}
use Rattle.std.specs.List.{sum_by}

-- the sum of an amount over the places of a group
abbrev pub sum_in : (ℕ → ℕ) → (ℕ → ℕ) → ℕ → List ℕ → ℕ
sum_in amount group g places = sum_by amount (filter (λ place. nat_eq (group place) g) places)

-- each group's number has grown by its sum over the places, modulo 2^64
pub record Adds (amount : ℕ → ℕ) (group : ℕ → ℕ) (places old new : List ℕ) : Type 0 where
  pub len : length new ≡ length old
  pub each : (g : ℕ) → g < length old
      → slice_index new g % 2 ^ 64 ≡ (slice_index old g + sum_in amount group g places) % 2 ^ 64

-- the sums of two lists, number by number, modulo 2^64
pub record Merges (xs ys zs : List ℕ) : Type 0 where
  pub len : length zs ≡ length xs
  pub each : (g : ℕ) → g < length xs → slice_index zs g ≡ (slice_index xs g + slice_index ys g) % 2 ^ 64

-- the list with an amount added at an index, modulo 2^64
abbrev pub add_at : List ℕ → ℕ → ℕ → List ℕ
add_at xs g amount = slice_set xs g ((slice_index xs g + amount) % 2 ^ 64)

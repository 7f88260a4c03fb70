-- The segments that a start finds, by their numbers.
use Rattle.std.specs.Prelude.{◌≡◌, ◌<◌, ℕ, List, length, slice_index}

-- the first segment is that of the tables, and each later one has a greater number
pub record IsChainFrom (after : ℕ) (numbers : List ℕ) : Type 0 where
  pub first : slice_index numbers 0 ≡ after
  pub ascending : (i j : ℕ) → i < j → j < length numbers → slice_index numbers i < slice_index numbers j

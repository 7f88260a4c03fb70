-- Zones: of each chunk of places the coarse codes of the rows that its lines name, as a set of bits.
use Rattle.std.specs.Prelude.{ℕ, ◌≡◌, ◌<◌, ◌/◌, ◌%◌, List, length, slice_index}
use Rattle.std.specs.Int.{bit_at}

-- how many places a chunk has, if it is not the last
abbrev pub chunk_size : ℕ
chunk_size = 2048

-- the coarse code of a row, one of 64
abbrev pub coarse : List ℕ → ℕ → ℕ
coarse codes row = slice_index codes row % 64

-- the set has the code
abbrev pub HasCode : ℕ → ℕ → Type 0
HasCode set code = bit_at set code ≡ 1

-- each place's row has its code in the set of the place's chunk
abbrev pub AreZonesOf : List ℕ → List ℕ → List ℕ → Type 0
AreZonesOf codes sets rows =
    (place : ℕ) → place < length rows
    → HasCode (slice_index sets (place / chunk_size)) (coarse codes (slice_index rows place))

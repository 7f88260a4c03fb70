-- Where the rows of a dimension stand, by key.
use Rattle.std.specs.Prelude.{ℕ, ◌-◌, nat_eq, nat_lt, if◌then◌else◌, Option, Some, None, length, slice_index}
use Rattle.std.specs.HashMap as map
use Rattle.ssb_base.specs.Bits.{has}
use Rattle.ssb_base.specs.declared.places.Places.{Places}

-- where the array has a key; None where it does not take it
abbrev pub near_index : Places → ℕ → Option ℕ
near_index p k =
    if nat_lt k p.first then None
    else if nat_lt (k - p.first) (length p.near.items) then Some (k - p.first)
    else None

abbrev pub place_at : Places → ℕ → Option ℕ → Option ℕ
place_at p k (Some i) = if has p.known i then Some (slice_index p.near.items i) else None
place_at p k None = map.get nat_eq p.far k

-- the place of a key
abbrev pub place_in : Places → ℕ → Option ℕ
place_in p k = place_at p k (near_index p k)

-- What is found of a chunk, and room for it.
use Rattle.std.specs.Prelude.{ℕ, ◌≡◌, ◌≤◌, ◌-◌, length, map, filter, nat_lt, vec_len}
use Rattle.scan_kernel.specs.Dealt.{AreListsFor}
use Rattle.std.specs.List.{range_with_len}
use Rattle.scan_kernel.specs.declared.batch.FoundPlaces.{FoundPlaces}
use Rattle.scan_kernel.specs.declared.batch.Dealt.{Dealt}
use Rattle.scan_kernel.specs.declared.columns.LineColumns.{LineColumns}
use Rattle.scan_kernel.specs.declared.masks.Masks.{Masks}
use Rattle.scan_kernel.specs.declared.range.Room.{Room}
use Rattle.scan_kernel.specs.Places.{mask_at}

-- the places of a range that some question takes, each with its mask
pub record AreFound (lines : LineColumns) (masks : Masks) (found : FoundPlaces) : Type 0 where
  pub within : found.to ≤ length lines.customer.now
  pub order : found.from ≤ found.to
  pub places_are : found.places.now ≡ filter (λ place. nat_lt 0 (mask_at lines masks place))
      (range_with_len found.from (found.to - found.from))
  pub masks_are : found.masks.now ≡ map (mask_at lines masks) found.places.now

-- there is room for so many places of each question
pub record HasDealtRoom (count : ℕ) (dealt : Dealt) : Type 0 where
  pub lists : AreListsFor count dealt.lists.items
  pub groups : count ≤ vec_len dealt.groups

-- there is room for so many places
pub record HasRoom (count : ℕ) (room : Room) : Type 0 where
  pub enough : count ≤ vec_len room.places
  pub masks : vec_len room.masks ≡ vec_len room.places
  pub dealt : HasDealtRoom (vec_len room.places) room.dealt

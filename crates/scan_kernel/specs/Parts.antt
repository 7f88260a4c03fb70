-- The parts that the places are divided into.
use Rattle.std.specs.Prelude.{ℕ, ◌*◌, ◌-◌, ◌<◌, ◌+◌, min, List, slice_index_or}
use Rattle.std.specs.List.{flat_map, range_with_len}
use Rattle.scan_kernel.specs.declared.totals.Totals.{Totals}
use Rattle.scan_kernel.specs.Sums.{Merges}

-- how many places a part has, if it is not the last
abbrev pub part_size : ℕ
part_size = 65536

-- where the part begins, and the one before it ends
abbrev pub bound : ℕ → ℕ → ℕ
bound count part = min (part * part_size) count

-- the places of a part
abbrev pub part_places : ℕ → ℕ → List ℕ
part_places count part = range_with_len (bound count part) (bound count (part + 1) - bound count part)

-- the places of parts, one part after another
abbrev pub places_of_parts : ℕ → List ℕ → List ℕ
places_of_parts count parts = flat_map (part_places count) parts

-- the totals of two lists of places together
pub record MergesTotals (left right new : Totals) : Type 0 where
  pub counts_are : Merges left.counts.items right.counts.items new.counts.items
  pub gains_are : Merges left.gains.items right.gains.items new.gains.items
  pub losses_are : Merges left.losses.items right.losses.items new.losses.items

abbrev pub MergesBatch : ℕ → List Totals → List Totals → List Totals → Type 0
MergesBatch count left right new =
    (k : ℕ) (r t : Totals) → k < count
    → MergesTotals (slice_index_or left k t) (slice_index_or right k r) (slice_index_or new k t)

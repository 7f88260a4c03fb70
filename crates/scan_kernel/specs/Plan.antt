-- What a search has to look at of the lines of a chunk.
use Rattle.std.specs.Prelude.{ℕ, ◌≡◌, ◌<◌, ◌≤◌, ◌/◌, ◌*◌, ◌%◌, ◌^◌, Bool, true, false, length, bit_and, bit_or}
use Rattle.std.specs.Prelude.{if◌then◌else◌, None, Option, List}
use Rattle.std.specs.Int.{bit_at}
use Rattle.scan_kernel.specs.declared.columns.LineColumns.{LineColumns}
use Rattle.scan_kernel.specs.declared.masks.Masks.{Masks}
use Rattle.scan_kernel.specs.declared.plan.ChunkPlan.{ChunkPlan}
use Rattle.scan_kernel.specs.declared.plan.TestedDimensions.{TestedDimensions}
use Rattle.scan_kernel.specs.declared.wanted.DimensionCodes.{DimensionCodes}
use Rattle.scan_kernel.specs.Masks.{questions_a_pass}
use Rattle.scan_kernel.specs.Places.{mask_at}
use Rattle.scan_kernel.specs.Zones.{chunk_size}

-- the masks of a dimension that is looked at, or none
abbrev pub seen : Bool → Option (List ℕ) → Option (List ℕ)
seen looks masks = if looks then masks else None

-- the masks of the dimensions that are looked at
abbrev pub looked_at : TestedDimensions → Masks → Masks
looked_at looks masks = record {
  customers = seen looks.customers masks.customers;
  suppliers = seen looks.suppliers masks.suppliers;
  parts = seen looks.parts masks.parts;
  dates = seen looks.dates masks.dates;
  terms = masks.terms;
}

-- the bits of some questions in the mask of the line at a place
abbrev pub active_mask_at : LineColumns → Masks → ℕ → ℕ → ℕ
active_mask_at lines masks active place = bit_and active (mask_at lines masks place)

-- at the place the plan's masks say of each question what the masks say
abbrev pub SufficesAt : LineColumns → Masks → ChunkPlan → ℕ → Type 0
SufficesAt lines masks plan place =
    (k : ℕ) → k < questions_a_pass
    → bit_at (active_mask_at lines (looked_at plan.looks_at masks) plan.active place) k ≡ bit_at (mask_at lines masks place)
    k

-- the same at each place from the one up to the other
abbrev pub SufficesBetween : LineColumns → Masks → ℕ → ℕ → ChunkPlan → Type 0
SufficesBetween lines masks from to plan = (place : ℕ) → from ≤ place → place < to → SufficesAt lines masks plan place

-- and at each place of a chunk
abbrev pub Suffices : LineColumns → Masks → ℕ → ChunkPlan → Type 0
Suffices lines masks chunk plan =
    (place : ℕ) → place / chunk_size ≡ chunk → place < length lines.customer.now → SufficesAt lines masks plan place

-- a mask with a bit more
abbrev pub with_bit : ℕ → ℕ → ℕ
with_bit mask k = bit_or mask (1 * 2 ^ k % 2 ^ 16)

-- of the dimensions that are not looked at, no row of the zone is left out
pub record AreSettled (looks : TestedDimensions) (zone leaves : DimensionCodes) : Type 0 where
  pub customers : looks.customers ≡ false → bit_and zone.customers leaves.customers ≡ 0
  pub suppliers : looks.suppliers ≡ false → bit_and zone.suppliers leaves.suppliers ≡ 0
  pub parts : looks.parts ≡ false → bit_and zone.parts leaves.parts ≡ 0
  pub dates : looks.dates ≡ false → bit_and zone.dates leaves.dates ≡ 0

-- what the one does not look at, the other did not
pub record LooksAtAll (old new : TestedDimensions) : Type 0 where
  pub customers : new.customers ≡ false → old.customers ≡ false
  pub suppliers : new.suppliers ≡ false → old.suppliers ≡ false
  pub parts : new.parts ≡ false → old.parts ≡ false
  pub dates : new.dates ≡ false → old.dates ≡ false

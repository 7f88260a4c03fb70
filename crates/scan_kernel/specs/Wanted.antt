-- The coarse codes that a question takes, and the chunks that no question takes a line of.
use Rattle.std.specs.Prelude.{ℕ, ◌≡◌, ◌≢◌, ◌<◌, ◌/◌, List, Option, Some, None, length, slice_index, slice_index_or, bit_and}
use Rattle.std.specs.Int.{bit_at}
use Rattle.scan_kernel.specs.declared.columns.LineColumns.{LineColumns}
use Rattle.scan_kernel.specs.declared.masks.Masks.{Masks}
use Rattle.scan_kernel.specs.declared.wanted.Wanted.{Wanted}
use Rattle.scan_kernel.specs.declared.wanted.CodeMasks.{CodeMasks}
use Rattle.scan_kernel.specs.declared.wanted.DimensionCodes.{DimensionCodes}
use Rattle.scan_kernel.specs.Masks.{questions_a_pass}
use Rattle.scan_kernel.specs.Places.{mask_in, mask_at}
use Rattle.scan_kernel.specs.Zones.{HasCode, chunk_size, coarse}

-- the mask of each code has the bits that the masks of its rows have
abbrev pub HasTakers : Option (List ℕ) → List ℕ → List ℕ → Type 0
HasTakers masks codes takers =
    (row k : ℕ) → k < questions_a_pass → bit_at (mask_in masks row) k ≡ 1
    → bit_at (slice_index takers (coarse codes row)) k ≡ 1

-- the dimension has the row, where it is tested
abbrev pub IsRow : Option (List ℕ) → ℕ → Type 0
IsRow None row = Unit {0}
IsRow (Some masks) row = row < length masks

-- the mask of each code has the bits that the masks of its rows lack
abbrev pub HasLeavers : Option (List ℕ) → List ℕ → List ℕ → Type 0
HasLeavers masks codes leavers =
    (row k : ℕ) → IsRow masks row → k < questions_a_pass → bit_at (mask_in masks row) k ≡ 0
    → bit_at (slice_index leavers (coarse codes row)) k ≡ 1

-- the same of all dimensions
pub record HaveTakers (lines : LineColumns) (masks : Masks) (all : CodeMasks) : Type 0 where
  pub customers : HasTakers masks.customers lines.customer_zones.codes.now all.customers
  pub suppliers : HasTakers masks.suppliers lines.supplier_zones.codes.now all.suppliers
  pub parts : HasTakers masks.parts lines.part_zones.codes.now all.parts
  pub dates : HasTakers masks.dates lines.date_zones.codes.now all.dates

pub record HaveLeavers (lines : LineColumns) (masks : Masks) (all : CodeMasks) : Type 0 where
  pub customers : HasLeavers masks.customers lines.customer_zones.codes.now all.customers
  pub suppliers : HasLeavers masks.suppliers lines.supplier_zones.codes.now all.suppliers
  pub parts : HasLeavers masks.parts lines.part_zones.codes.now all.parts
  pub dates : HasLeavers masks.dates lines.date_zones.codes.now all.dates

-- the set has each code whose mask has bit k
abbrev pub HasBit : List ℕ → ℕ → ℕ → Type 0
HasBit masks k set = (code : ℕ) → code < 64 → bit_at (slice_index masks code) k ≡ 1 → HasCode set code

pub record HaveBit (all : CodeMasks) (k : ℕ) (sets : DimensionCodes) : Type 0 where
  pub customers : HasBit all.customers k sets.customers
  pub suppliers : HasBit all.suppliers k sets.suppliers
  pub parts : HasBit all.parts k sets.parts
  pub dates : HasBit all.dates k sets.dates

-- each row that question k takes has its code in the set
abbrev pub HasTaken : Option (List ℕ) → List ℕ → ℕ → ℕ → Type 0
HasTaken masks codes k set = (row : ℕ) → bit_at (mask_in masks row) k ≡ 1 → HasCode set (coarse codes row)

-- each row that question k does not take has its code in the set
abbrev pub HasLeft : Option (List ℕ) → List ℕ → ℕ → ℕ → Type 0
HasLeft masks codes k set =
    (row : ℕ) → IsRow masks row → bit_at (mask_in masks row) k ≡ 0 → HasCode set (coarse codes row)

-- of each dimension the codes of all rows that question k takes
pub record Takes (lines : LineColumns) (masks : Masks) (k : ℕ) (sets : DimensionCodes) : Type 0 where
  pub customers : HasTaken masks.customers lines.customer_zones.codes.now k sets.customers
  pub suppliers : HasTaken masks.suppliers lines.supplier_zones.codes.now k sets.suppliers
  pub parts : HasTaken masks.parts lines.part_zones.codes.now k sets.parts
  pub dates : HasTaken masks.dates lines.date_zones.codes.now k sets.dates

-- and of all rows that it does not take
pub record Leaves (lines : LineColumns) (masks : Masks) (k : ℕ) (sets : DimensionCodes) : Type 0 where
  pub customers : HasLeft masks.customers lines.customer_zones.codes.now k sets.customers
  pub suppliers : HasLeft masks.suppliers lines.supplier_zones.codes.now k sets.suppliers
  pub parts : HasLeft masks.parts lines.part_zones.codes.now k sets.parts
  pub dates : HasLeft masks.dates lines.date_zones.codes.now k sets.dates

pub record IsWanted (lines : LineColumns) (masks : Masks) (k : ℕ) (wanted : Wanted) : Type 0 where
  pub takes : Takes lines masks k wanted.takes
  pub leaves : Leaves lines masks k wanted.leaves

-- the same of the first questions
abbrev pub AreWantedUpTo : LineColumns → Masks → ℕ → List Wanted → Type 0
AreWantedUpTo lines masks count all =
    (k : ℕ) (one : Wanted) → k < count → IsWanted lines masks k (slice_index_or all k one)

-- and of each question that a batch may have
pub record AreWanted (lines : LineColumns) (masks : Masks) (all : List Wanted) : Type 0 where
  pub len : length all ≡ questions_a_pass
  pub each : AreWantedUpTo lines masks questions_a_pass all

-- the codes of the rows that the lines of a chunk name
abbrev pub zone_of : LineColumns → ℕ → DimensionCodes
zone_of lines chunk = record {
  customers = slice_index lines.customer_zones.sets.now chunk;
  suppliers = slice_index lines.supplier_zones.sets.now chunk;
  parts = slice_index lines.part_zones.sets.now chunk;
  dates = slice_index lines.date_zones.sets.now chunk;
}

-- in each dimension there is a code that both have
pub record Shares (zone takes : DimensionCodes) : Type 0 where
  pub customers : bit_and zone.customers takes.customers ≢ 0
  pub suppliers : bit_and zone.suppliers takes.suppliers ≢ 0
  pub parts : bit_and zone.parts takes.parts ≢ 0
  pub dates : bit_and zone.dates takes.dates ≢ 0

-- no question takes the line at a place of the chunk
abbrev pub IsLeftOut : LineColumns → Masks → ℕ → ℕ → Type 0
IsLeftOut lines masks count chunk =
    (k place : ℕ) → k < count → place / chunk_size ≡ chunk → place < length lines.customer.now
    → bit_at (mask_at lines masks place) k ≡ 0

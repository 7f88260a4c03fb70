-- What the scan reads at a place of the columns.
use Rattle.std.specs.Prelude.{ℕ, ◌≡◌, ◌<◌, ◌≤◌, ◌-◌, ◌*◌, ◌/◌, ◌%◌, ◌^◌, Bool, List, Option, Some, None, All, nat_eq}
use Rattle.std.specs.Prelude.{slice_index, if◌then◌else◌, length, take, map, filter, nat_lt}
use Rattle.std.specs.List.{sum_by, range_with_len}
use Rattle.std.specs.Int.{bit_at}
use Rattle.std.specs.Prelude.{bit_and}
use Rattle.ssb_questions.specs.declared.plan.Measure.{Measure}
use Rattle.ssb_questions.specs.declared.plan.Measure.TheVariants.{PriceTimesDiscount, Revenue, Profit, Quantity}
use Rattle.ssb_questions.specs.declared.plan.Measure.TheVariants.{ExtendedPrice, SupplyCost, Lines}
use Rattle.scan_kernel.specs.declared.columns.LineColumns.{LineColumns}
use Rattle.scan_kernel.specs.declared.columns.GroupColumn.{GroupColumn}
use Rattle.scan_kernel.specs.declared.masks.Masks.{Masks}

-- the masks of a dimension that is tested, or none
abbrev pub tested : Bool → List ℕ → Option (List ℕ)
tested is_tested masks = if is_tested then Some masks else None

-- a dimension's mask at a position: every bit where no question tests the dimension
abbrev pub mask_in : Option (List ℕ) → ℕ → ℕ
mask_in None position = 2 ^ 16 - 1
mask_in (Some masks) position = slice_index masks position

-- each position has a mask
abbrev pub Covers : Option (List ℕ) → List ℕ → Type 0
Covers None positions = Unit {0}
Covers (Some masks) positions = All (λ position. position < length masks) positions

-- the mask of the line at a place: bit k is set where question k of the batch takes the line
abbrev pub mask_at : LineColumns → Masks → ℕ → ℕ
mask_at lines masks place =
    bit_and (bit_and (bit_and (bit_and
    (slice_index masks.terms (slice_index lines.terms.now place))
    (mask_in masks.customers (slice_index lines.customer.now place)))
    (mask_in masks.suppliers (slice_index lines.supplier.now place)))
    (mask_in masks.parts (slice_index lines.part.now place)))
    (mask_in masks.dates (slice_index lines.date.now place))

abbrev pub has_bit : LineColumns → Masks → ℕ → ℕ → Bool
has_bit lines masks k place = nat_eq (bit_at (mask_at lines masks place) k) 1

-- each place has its masks
pub record CanSearch (lines : LineColumns) (masks : Masks) : Type 0 where
  pub customers : Covers masks.customers lines.customer.now
  pub suppliers : Covers masks.suppliers lines.supplier.now
  pub parts : Covers masks.parts lines.part.now
  pub dates : Covers masks.dates lines.date.now
  pub terms : All (λ term. term < length masks.terms) lines.terms.now

-- the first `count` places are those from `from` up to `to` whose mask is not 0, in order, with their masks
pub record IsSearchBy (mask : ℕ → ℕ) (from to count : ℕ) (old_places places old_found found : List ℕ) : Type 0 where
  pub room : length places ≡ length old_places
  pub marks : length found ≡ length old_found
  pub within : count ≤ length places
  pub are_found : take count places ≡ filter (λ place. nat_lt 0 (mask place)) (range_with_len from (to - from))
  pub have_masks : take count found ≡ map mask (take count places)

-- the first `count` places are those from `from` up to `to` that some question takes, in order, with their masks
abbrev pub IsSearch : LineColumns → Masks → ℕ → ℕ → ℕ → List ℕ → List ℕ → List ℕ → List ℕ → Type 0
IsSearch lines masks = IsSearchBy (mask_at lines masks)

-- what the group column adds to the number of the group of the line at a place
abbrev pub part_at : ℕ → GroupColumn → ℕ
part_at place column =
    slice_index column.parts.now (slice_index column.codes.now (slice_index column.positions.now place))

-- the number of the group of the line at a place
abbrev pub group_at : List GroupColumn → ℕ → ℕ
group_at columns place = sum_by (part_at place) columns

-- each place has its code, and each code its part
pub record CanNumber (count : ℕ) (column : GroupColumn) : Type 0 where
  pub places : length column.positions.now ≡ count
  pub positions : All (λ position. position < length column.codes.now) column.positions.now
  pub codes : All (λ code. code < length column.parts.now) column.codes.now

-- what the line at a place adds to the measure
abbrev pub gain_at : LineColumns → Measure → ℕ → ℕ
gain_at lines PriceTimesDiscount place = slice_index lines.price.now place * (slice_index lines.terms.now place % 16)
gain_at lines Revenue place = slice_index lines.revenue.now place
gain_at lines Profit place = slice_index lines.revenue.now place
gain_at lines Quantity place = slice_index lines.terms.now place / 16
gain_at lines ExtendedPrice place = slice_index lines.price.now place
gain_at lines SupplyCost place = slice_index lines.cost.now place
gain_at lines Lines place = 1

-- what it takes away from the measure
abbrev pub loss_at : LineColumns → Measure → ℕ → ℕ
loss_at lines PriceTimesDiscount place = 0
loss_at lines Revenue place = 0
loss_at lines Profit place = slice_index lines.cost.now place
loss_at lines Quantity place = 0
loss_at lines ExtendedPrice place = 0
loss_at lines SupplyCost place = 0
loss_at lines Lines place = 0

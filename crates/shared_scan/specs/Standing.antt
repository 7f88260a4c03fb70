-- Questions whose totals follow the live lines.
use Rattle.std.specs.Prelude.{ℕ, ◌≡◌, ◌+◌, ◌*◌, ◌/◌, ◌%◌, ◌^◌, ◌<◌, ◌&&◌, Bool, true, nat_eq, nat_lt, List, [], ◌∷◌}
use Rattle.std.specs.Prelude.{length, slice_index, slice_index_or, bit_and, MatchBool, if◌then◌else◌}
use Rattle.std.specs.List.{sum_by}
use Rattle.std.specs.Int.{bit_at}
use Rattle.ssb_base.specs.Base.{Tables}
use Rattle.ssb_schema.specs.declared.column.Column.{Column}
use Rattle.ssb_schema.specs.declared.table.Table.{Table}
use Rattle.ssb_schema.specs.declared.table.Table.TheVariants as table
use Rattle.ssb_questions.specs.declared.plan.Measure.{Measure}
use Rattle.ssb_questions.specs.declared.plan.Measure.TheVariants.{PriceTimesDiscount, Revenue, Profit, Quantity}
use Rattle.ssb_questions.specs.declared.plan.Measure.TheVariants.{ExtendedPrice, SupplyCost, Lines}
use Rattle.dimension_index.specs.Codes.{codes_of}
use Rattle.dimension_index.specs.Values.{values_of}
use Rattle.fact_columns.specs.declared.scanned_line.ScannedLine.{ScannedLine}
use Rattle.scan_kernel.specs.declared.masks.Masks.{Masks}
use Rattle.scan_kernel.specs.declared.totals.Totals.{Totals}
use Rattle.scan_kernel.specs.Places.{mask_in}
use Rattle.shared_scan.specs.Parts.{most_dense}
use Rattle.shared_scan.specs.declared.parts.Parts.{Parts}
use Rattle.shared_scan.specs.declared.parts.Parts.TheVariants.{Narrow, Wide}
use Rattle.shared_scan.specs.declared.ready.Ready.{Ready}

-- the mask of a line, by the classes of its rows: bit k is set where question k takes the line
abbrev pub line_mask : Masks → ScannedLine → ℕ
line_mask masks line =
    bit_and (bit_and (bit_and (bit_and
    (slice_index masks.terms line.terms)
    (mask_in masks.customers line.customer))
    (mask_in masks.suppliers line.supplier))
    (mask_in masks.parts line.part))
    (mask_in masks.dates line.date)

abbrev pub takes_line : Masks → ℕ → ScannedLine → Bool
takes_line masks k line = nat_eq (bit_at (line_mask masks line) k) 1

-- the class of a line's row; no question looks up rows of the fact table, and any class will do
abbrev pub class_in : Table → ScannedLine → ℕ
class_in table.Customer line = line.customer
class_in table.Supplier line = line.supplier
class_in table.Part line = line.part
class_in table.Date line = line.date
class_in table.Lineorder line = line.date

-- what a group column adds to the number of a line's group
abbrev pub part_of_line : Tables → Column → List ℕ → ScannedLine → ℕ
part_of_line base column part line =
    slice_index part (slice_index (codes_of (values_of base column)) (class_in column.table line))

abbrev pub parts_of_line : Tables → List Column → List (List ℕ) → ScannedLine → ℕ
parts_of_line base [] parts line = 0
parts_of_line base (column ∷ columns) [] line = 0
parts_of_line base (column ∷ columns) (part ∷ parts) line =
    part_of_line base column part line + parts_of_line base columns parts line

-- the number of a line's group, which fits 64 bits; one group stands for all where they are summed up apart
abbrev pub group_with : Tables → List Column → Parts → ScannedLine → ℕ
group_with base columns (Narrow parts) line = parts_of_line base columns parts.items line % 2 ^ 64
group_with base columns (Wide parts) line = 0

abbrev pub group_of_line : Tables → Ready → ScannedLine → ℕ
group_of_line base ready line = group_with base ready.plan.groups ready.groups.parts line

-- what a line adds to the measure
abbrev pub gain_in : Measure → ScannedLine → ℕ
gain_in PriceTimesDiscount line = line.price * (line.terms % 16)
gain_in Revenue line = line.revenue
gain_in Profit line = line.revenue
gain_in Quantity line = line.terms / 16
gain_in ExtendedPrice line = line.price
gain_in SupplyCost line = line.cost
gain_in Lines line = 1

-- what it takes away from the measure
abbrev pub loss_in : Measure → ScannedLine → ℕ
loss_in PriceTimesDiscount line = 0
loss_in Revenue line = 0
loss_in Profit line = line.cost
loss_in Quantity line = 0
loss_in ExtendedPrice line = 0
loss_in SupplyCost line = 0
loss_in Lines line = 0

-- what a line adds to a group: its amount, if it is taken and of that group
abbrev pub share : Bool → ℕ → ℕ → ℕ → ℕ
share taken group g amount = if taken && nat_eq group g then amount else 0

-- how many numbers of groups are kept
abbrev pub size_with : Parts → ℕ → ℕ
size_with (Narrow parts) size = size
size_with (Wide parts) size = 1

-- each group's number is the sum over the lines that are taken and of that group, modulo 2^64
pub record AreSumsOf (takes : ScannedLine → Bool) (group amount : ScannedLine → ℕ) (size : ℕ) (lines : List ScannedLine)
    (numbers : List ℕ) : Type 0 where
  pub len : length numbers ≡ size
  pub each : (g : ℕ) → g < length numbers → slice_index numbers g % 2 ^ 64
      ≡ sum_by (λ line. share (takes line) (group line) g (amount line)) lines % 2 ^ 64

-- the totals of question k are those of the lines
pub record AreTotalsOver (base : Tables) (masks : Masks) (k : ℕ) (ready : Ready) (lines : List ScannedLine)
    (totals : Totals) : Type 0 where
  pub counts : AreSumsOf (takes_line masks k) (group_of_line base ready) (λ line. 1)
      (size_with ready.groups.parts ready.groups.size) lines totals.counts.items
  pub gains : AreSumsOf (takes_line masks k) (group_of_line base ready) (gain_in ready.plan.measure)
      (size_with ready.groups.parts ready.groups.size) lines totals.gains.items
  pub losses : AreSumsOf (takes_line masks k) (group_of_line base ready) (loss_in ready.plan.measure)
      (size_with ready.groups.parts ready.groups.size) lines totals.losses.items

-- the number adds the amount, or takes it off, modulo 2^64
abbrev pub IsSigned : Bool → ℕ → ℕ → Type 0
IsSigned comes amount delta = MatchBool comes (delta ≡ amount) ((delta + amount) % 2 ^ 64 ≡ 0)

-- the number of a group has grown by so much, modulo 2^64; all others are as they were
pub record Shifts (group delta : ℕ) (old new : List ℕ) : Type 0 where
  pub len : length new ≡ length old
  pub each : (g : ℕ) → g < length old
      → slice_index new g % 2 ^ 64 ≡ (slice_index old g + share true group g delta) % 2 ^ 64

-- what a line changes of the three numbers of its group
pub record IsChange (measure : Measure) (line : ScannedLine) (comes : Bool) (count gain loss : ℕ) : Type 0 where
  pub count_is : IsSigned comes 1 count
  pub gain_is : IsSigned comes (gain_in measure line) gain
  pub loss_is : IsSigned comes (loss_in measure line) loss

-- the totals of a question that takes the line have it more, or less
pub record ShiftsLine (base : Tables) (ready : Ready) (line : ScannedLine) (comes : Bool)
    (old new : Totals) : Type 0 where
  pub count : ℕ
  pub gain : ℕ
  pub loss : ℕ
  pub change : IsChange ready.plan.measure line comes count gain loss
  pub counts : Shifts (group_of_line base ready line) count old.counts.items new.counts.items
  pub gains : Shifts (group_of_line base ready line) gain old.gains.items new.gains.items
  pub losses : Shifts (group_of_line base ready line) loss old.losses.items new.losses.items

-- those of a question that does not take it are as they were
abbrev pub ShiftsWhere : Bool → Tables → Ready → ScannedLine → Bool → Totals → Totals → Type 0
ShiftsWhere taken base ready line comes old new = MatchBool taken (ShiftsLine base ready line comes old new) (new ≡ old)

-- so for each question of a batch
abbrev pub ShiftsBatch : Tables → Masks → List Ready → ScannedLine → Bool → List Totals → List Totals → Type 0
ShiftsBatch base masks all line comes old new =
    (k : ℕ) (ready : Ready) (t : Totals) → k < length all
    → ShiftsWhere (takes_line masks k line) base (slice_index_or all k ready) line comes (slice_index_or old k t)
    (slice_index_or new k t)

-- the same numbers
pub record HasNumbersOf (old new : Totals) : Type 0 where
  pub counts : new.counts.items ≡ old.counts.items
  pub gains : new.gains.items ≡ old.gains.items
  pub losses : new.losses.items ≡ old.losses.items

pub record HaveNumbersOf (old new : List Totals) : Type 0 where
  pub len : length new ≡ length old
  pub each : (k : ℕ) (s t : Totals) → k < length old → HasNumbersOf (slice_index_or old k s) (slice_index_or new k t)

-- the question was made ready with more groups than totals are kept of
abbrev pub has_many_numbers : Ready → Bool
has_many_numbers ready = nat_lt most_dense ready.groups.size

-- What masks and groupings of a batch are, of the plans that they were made for.
use Rattle.std.specs.Prelude.{ℕ, ◌≡◌, ◌<◌, ◌+◌, ◌*◌, ◌&&◌, List, [], ◌∷◌, Option, Some, length, slice_get, slice_index}
use Rattle.std.specs.List.{AllByRecursion}
use Rattle.std.specs.Int.{bit_at}
use Rattle.ssb_base.specs.Base.{Tables, Dimensions}
use Rattle.ssb_schema.specs.declared.column.Column.{Column}
use Rattle.ssb_schema.specs.declared.table.Table.{Table}
use Rattle.ssb_schema.specs.declared.table.Table.TheVariants as table
use Rattle.ssb_questions.specs.declared.plan.Measure.{Measure}
use Rattle.ssb_questions.specs.declared.plan.Plan.{Plan}
use Rattle.ssb_questions.specs.declared.value.Value.{Value}
use Rattle.ssb_answers.specs.RowValues.{customer_value, supplier_value, part_value, date_value, pass, is_within}
use Rattle.dimension_index.specs.Values.{values_of}
use Rattle.scan_kernel.specs.declared.columns.LineColumns.{LineColumns}
use Rattle.scan_kernel.specs.declared.columns.GroupColumn.{GroupColumn}
use Rattle.scan_kernel.specs.declared.columns.Grouping.{Grouping}
use Rattle.scan_kernel.specs.declared.masks.Masks.{Masks}
use Rattle.scan_kernel.specs.Places.{mask_in}
use Rattle.scan_kernel.specs.Masks.{IsMask}
use Rattle.scan_kernel.specs.Groups.{AreApart, code_in, counts_of, size_of}

-- the masks tell which plans each row passes, and each pair of quantity and discount; a free place passes none
pub record AreMasksOf (plans : List Plan) (dimensions : Dimensions) (masks : Masks) : Type 0 where
  pub customers_tell : (p : ℕ) (row : _) → slice_get dimensions.customers p ≡ Some row
      → IsMask (λ plan. pass plan.customers (λ place. customer_value place row)) plans (mask_in masks.customers p)
  pub suppliers_tell : (p : ℕ) (row : _) → slice_get dimensions.suppliers p ≡ Some row
      → IsMask (λ plan. pass plan.suppliers (λ place. supplier_value place row)) plans (mask_in masks.suppliers p)
  pub parts_tell : (p : ℕ) (row : _) → slice_get dimensions.parts p ≡ Some row
      → IsMask (λ plan. pass plan.parts (λ place. part_value place row)) plans (mask_in masks.parts p)
  pub dates_tell : (p : ℕ) (row : _) → slice_get dimensions.dates p ≡ Some row
      → IsMask (λ plan. pass plan.dates (λ place. date_value place row)) plans (mask_in masks.dates p)
  pub terms_tell : (quantity discount : ℕ) → 0 < quantity → quantity < 64 → discount < 16
      → IsMask (λ plan. is_within plan.quantity quantity && is_within plan.discount discount) plans
      (slice_index masks.terms (quantity * 16 + discount))
  pub free_is_none : (discount : ℕ) → discount < 16 → slice_index masks.terms discount ≡ 0

-- where the lines' rows stand; no question looks up rows of the fact table, and any positions will do
abbrev pub positions_in : Table → LineColumns → List ℕ
positions_in table.Customer lines = lines.customer.now
positions_in table.Supplier lines = lines.supplier.now
positions_in table.Part lines = lines.part.now
positions_in table.Date lines = lines.date.now
positions_in table.Lineorder lines = lines.date.now

-- the masks of a dimension; the fact table has no rows that are looked up, and any masks will do
abbrev pub masks_in : Table → Masks → Option (List ℕ)
masks_in table.Customer masks = masks.customers
masks_in table.Supplier masks = masks.suppliers
masks_in table.Part masks = masks.parts
masks_in table.Date masks = masks.dates
masks_in table.Lineorder masks = masks.dates

-- at each row that question k takes, the part is the code of the row's value, times the step
pub record IsPart (base : Tables) (masks : Masks) (k : ℕ) (lines : LineColumns) (column : Column)
    (values : List Value) (step : ℕ) (group : GroupColumn) : Type 0 where
  pub positions_are : group.positions.now ≡ positions_in column.table lines
  pub numbers : (p : ℕ) (value : Value) → slice_get (values_of base column) p ≡ Some value
      → bit_at (mask_in (masks_in column.table masks) p) k ≡ 1
      → (slice_get values (code_in values value) ≡ Some value)
      × (slice_index group.parts.now (slice_index group.codes.now p) ≡ code_in values value * step)

abbrev pub AreParts : Tables → Masks → ℕ → LineColumns → List Column → List (List Value) → ℕ → List GroupColumn → Type 0
AreParts base masks k lines [] [] step [] = Unit {0}
AreParts base masks k lines (column ∷ groups) (values ∷ columns) step (part ∷ parts) =
    IsPart base masks k lines column values step part
    × AreParts base masks k lines groups columns (step * length values) parts
AreParts base masks k lines _ _ step _ = ⊥

-- the measure, the group columns and the number of groups are the plan's, where each group column lists these values by
-- code
pub record IsGroupingBy (base : Tables) (masks : Masks) (k : ℕ) (lines : LineColumns) (plan : Plan)
    (columns : List (List Value)) (measure : Measure) (groups : List GroupColumn) (size : ℕ) : Type 0 where
  pub measures : measure ≡ plan.measure
  pub parts_are : AreParts base masks k lines plan.groups columns 1 groups
  pub apart : AllByRecursion AreApart columns
  pub size_is : size ≡ size_of (counts_of columns)

abbrev pub IsGroupingOf : Tables → Masks → ℕ → LineColumns → Plan → List (List Value) → Grouping → Type 0
IsGroupingOf base masks k lines plan columns grouping =
    IsGroupingBy base masks k lines plan columns grouping.measure grouping.columns.items grouping.size

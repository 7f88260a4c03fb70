-- The masks of a batch's rows.
use Rattle.std.specs.Prelude.{ℕ, ◌≡◌, ◌<◌, ◌≤◌, ◌/◌, ◌%◌, ◌&&◌, List, Option, length, Some, slice_get, slice_index}
use Rattle.std.specs.List.{list_all}
use Rattle.ssb_questions.specs.declared.plan.Plan.{Plan}
use Rattle.ssb_questions.specs.declared.value.Value.{Value}
use Rattle.ssb_answers.specs.RowValues.{is_within, pass}
use Rattle.ssb_base.specs.Base.{Dimensions, Tables}
use Rattle.ssb_schema.specs.declared.column.Column.{Column}
use Rattle.ssb_schema.specs.declared.table.Table.{Table}
use Rattle.dimension_index.specs.Keys.{keys_of}
use Rattle.shared_scan.specs.Tests.{tests_of, passes_at, value_of_row}
use Rattle.scan_kernel.specs.declared.masks.Masks.{Masks}
use Rattle.scan_kernel.specs.Places.{mask_in}
use Rattle.shared_scan.specs.Numbering.{HasMasks}
use Rattle.scan_kernel.specs.Masks.{IsMask}

-- each distinct value of a column has its mask: which plans' tests of the column it passes
pub record AreCodeMasks (column : Column) (plans : List Plan) (values : List Value) (masks : List ℕ) : Type 0 where
  pub len : length masks ≡ length values
  pub each : (code : ℕ) (value : Value) → slice_get values code ≡ Some value
      → IsMask (λ plan. passes_at (tests_of column.table plan) column.place value) plans (slice_index masks code)

-- each row of a dimension has its mask: which plans' tests of the columns at these places it passes
pub record AreRowMasks (base : Tables) (t : Table) (plans : List Plan) (places : List ℕ) (masks : List ℕ) : Type 0 where
  pub len : length masks ≡ length (keys_of base t)
  pub each : (p : ℕ) → p < length (keys_of base t)
      → IsMask
      (λ plan. list_all (λ place. passes_at (tests_of t plan) place (value_of_row base t p place)) places)
      plans (slice_index masks p)

-- the masks of a dimension, if it has any, tell which plans take each row
pub record TellDimension (base : Tables) (t : Table) (plans : List Plan) (masks : Option (List ℕ)) : Type 0 where
  pub tell : (p : ℕ) → p < length (keys_of base t)
      → IsMask (λ plan. pass (tests_of t plan) (value_of_row base t p)) plans (mask_in masks p)
  pub cover : (p : ℕ) → p < length (keys_of base t) → HasMasks masks p

-- the masks of the codes of quantity and discount tell which plans take them
pub record TellTerms (plans : List Plan) (masks : List ℕ) : Type 0 where
  pub len : length masks ≡ 1024
  pub free : (code : ℕ) → code < 16 → slice_index masks code ≡ 0
  pub live : (code : ℕ) → 16 ≤ code → code < 1024
      → IsMask (λ plan. is_within plan.quantity (code / 16) && is_within plan.discount (code % 16)) plans
      (slice_index masks code)

-- every row has its masks, and so has every code of quantity and discount
pub record CoverRows (dimensions : Dimensions) (masks : Masks) : Type 0 where
  pub customer_rows : (p : ℕ) → p < length dimensions.customers → HasMasks masks.customers p
  pub supplier_rows : (p : ℕ) → p < length dimensions.suppliers → HasMasks masks.suppliers p
  pub part_rows : (p : ℕ) → p < length dimensions.parts → HasMasks masks.parts p
  pub date_rows : (p : ℕ) → p < length dimensions.dates → HasMasks masks.dates p
  pub codes : length masks.terms ≡ 1024

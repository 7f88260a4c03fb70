-- The lines at places: their rows, their masks, their groups and what they add.
use Rattle.std.proofs.Common.{ℕ, ◌≡◌, ◌+◌, ◌*◌, ◌<◌, List, get_or, Some, bit_and, refl, sym, arith, subst}
use Rattle.std.specs.Prelude.{slice_get}
use Rattle.std.specs.Int.{bit_at}
use Rattle.std.proofs.Math.ListN.{get_or-map}
use Rattle.std.proofs.lemmas.Nat.Bits.{bit_at_and, bit_at-zero}
use Rattle.ssb_base.specs.Base.{Dimensions, Tables, IsSound, customer_key, supplier_key, part_key, date_key}
use Rattle.ssb_schema.specs.declared.fact.Fact.{Fact}
use Rattle.ssb_questions.specs.declared.plan.Plan.{Plan}
use Rattle.ssb_answers.specs.Combination.{Combination, passes, is_in_ranges}
use Rattle.fact_columns.specs.declared.place.Place.{Place}
use Rattle.fact_columns.specs.Places.{IsWithin, fact_at, quantity_in, discount_in}
use Rattle.scan_kernel.specs.declared.columns.LineColumns.{LineColumns}
use Rattle.scan_kernel.specs.declared.masks.Masks.{Masks}
use Rattle.scan_kernel.specs.Places.{mask_at, mask_in}
use Rattle.scan_kernel.specs.Combined.{combine}
use Rattle.scan_kernel.specs.Masks.{IsMask}
use Rattle.scan_kernel.proofs.MaskLaws.{masks_combine}
use Rattle.shared_scan.specs.Prepared.{AreMasksOf}
use Rattle.shared_scan.specs.Laws.{AreLinesOf}
use Rattle.shared_scan.proofs.RowLaws.{named_row, row_there}

-- the place that stands where there is none
abbrev pub nowhere : Place
nowhere = record {
  order = 0;
  customer = 0;
  supplier = 0;
  part = 0;
  date = 0;
  terms = 0;
  price = 0;
  revenue = 0;
  cost = 0;
  customer_class = 0;
  supplier_class = 0;
  part_class = 0;
  date_class = 0;
}

-- where the rows of a combination stand
pub record StandAt (dimensions : Dimensions) (c : Combination) (place : Place) : Type 0 where
  pub customer : slice_get dimensions.customers place.customer ≡ Some c.customer
  pub supplier : slice_get dimensions.suppliers place.supplier ≡ Some c.supplier
  pub part : slice_get dimensions.parts place.part ≡ Some c.part
  pub date : slice_get dimensions.dates place.date ≡ Some c.date

pub rows_stand : (base : Tables) (blank : Combination) (place : Place) → IsSound base → IsWithin base.dimensions place
    → StandAt base.dimensions (combine blank base.dimensions (fact_at base.dimensions place)) place
rows_stand base blank place sound within =
    let d = base.dimensions in
    let customer = row_there customer_key d.customers place.customer within.customer in
    let supplier = row_there supplier_key d.suppliers place.supplier within.supplier in
    let part = row_there part_key d.parts place.part within.part in
    let date = row_there date_key d.dates place.date within.date in
    record {
      customer = named_row customer_key d.customers place.customer customer.0 blank.customer sound.customers.distinct
          customer.1;
      supplier = named_row supplier_key d.suppliers place.supplier supplier.0 blank.supplier sound.suppliers.distinct
          supplier.1;
      part = named_row part_key d.parts place.part part.0 blank.part sound.parts.distinct part.1;
      date = named_row date_key d.dates place.date date.0 blank.date sound.dates.distinct date.1;
    }

-- the mask of a place, of what the place has
abbrev pub place_mask : Masks → Place → ℕ
place_mask masks place =
    bit_and (bit_and (bit_and (bit_and (get_or masks.terms place.terms 0) (mask_in masks.customers place.customer))
    (mask_in masks.suppliers place.supplier)) (mask_in masks.parts place.part)) (mask_in masks.dates place.date)

pub mask_is : (places : List Place) (lines : LineColumns) (masks : Masks) (i : ℕ) → AreLinesOf places lines
    → mask_at lines masks i ≡ place_mask masks (get_or places i nowhere)
mask_is places lines masks i are =
    rw (
      are.terms_are,
      are.customers_are,
      are.suppliers_are,
      are.parts_are,
      are.dates_are,
      get_or-map (λ (p : Place). p.terms) places i nowhere,
      get_or-map (λ (p : Place). p.customer) places i nowhere,
      get_or-map (λ (p : Place). p.supplier) places i nowhere,
      get_or-map (λ (p : Place). p.part) places i nowhere,
      get_or-map (λ (p : Place). p.date) places i nowhere,
    ) refl

-- the mask of a live place tells which plans its combination passes
pub live_mask : (base : Tables) (plans : List Plan) (masks : Masks) (c : Combination) (place : Place)
    → AreMasksOf plans base.dimensions masks → StandAt base.dimensions c place
    → IsWithin base.dimensions place → c.fact ≡ fact_at base.dimensions place → 0 < quantity_in place.terms
    → IsMask (λ plan. passes plan c) plans (place_mask masks place)
live_mask base plans masks c place tell stand within fact_is live =
    let quantity = quantity_in place.terms in
    let discount = discount_in place.terms in
    let together : quantity * 16 + discount ≡ place.terms = omega arith in
    let terms : IsMask (λ plan. is_in_ranges plan c.fact) plans (get_or masks.terms place.terms 0) =
    subst (λ (f : Fact). IsMask (λ plan. is_in_ranges plan f) plans (get_or masks.terms place.terms 0)) (sym fact_is)
    (subst (λ (t : ℕ). IsMask (λ plan. is_in_ranges plan (fact_at base.dimensions place)) plans
    (get_or masks.terms t 0)) together (tell.terms_tell quantity discount live (omega (arith, within.quantity))
    (omega (arith, within.discount)))) in
    masks_combine plans c _ _ _ _ _ terms (tell.customers_tell place.customer c.customer stand.customer)
    (tell.suppliers_tell place.supplier c.supplier stand.supplier) (tell.parts_tell place.part c.part stand.part)
    (tell.dates_tell place.date c.date stand.date)

-- a free place has no bit
pub free_mask : (plans : List Plan) (dimensions : Dimensions) (masks : Masks) (place : Place) (k : ℕ)
    → AreMasksOf plans dimensions masks → quantity_in place.terms ≡ 0 → bit_at (place_mask masks place) k ≡ 0
free_mask plans dimensions masks place k tell free = grind (arith, bit_at_and, bit_at-zero)

-- Columns of places within the dimensions can be searched.
use Rattle.std.proofs.Common.{ℕ, ◌≡◌, ◌<◌, List, length, map, get_or, Option, None, Some, sym, subst, arith}
use Rattle.std.specs.List.{All}
use Rattle.ssb_base.specs.Base.{Tables}
use Rattle.fact_columns.specs.declared.place.Place.{Place}
use Rattle.fact_columns.specs.Places.{IsWithin}
use Rattle.scan_kernel.specs.declared.columns.LineColumns.{LineColumns}
use Rattle.scan_kernel.specs.declared.masks.Masks.{Masks}
use Rattle.scan_kernel.specs.Places.{Covers, CanSearch}
use Rattle.scan_kernel.proofs.FoundLaws.{all_mapped}
use Rattle.shared_scan.specs.Laws.{AreLinesOf}
use Rattle.shared_scan.specs.Masking.{CoverRows}
use Rattle.shared_scan.specs.Numbering.{HasMasks}

covers : (masks : Option (List ℕ)) (rows : ℕ) (positions : List ℕ) → ((p : ℕ) → p < rows → HasMasks masks p)
    → All (λ p. p < rows) positions → Covers masks positions
covers None rows positions has all = tt
covers (Some masks) rows positions has all = λ k d below. has (get_or positions k d) (all k d below)

pub below_in : (P : ℕ → Type 0) (read : Place → ℕ) (places : List Place) (column : List ℕ) → column ≡ map read places
    → All (λ place. P (read place)) places → All P column
below_in P read places column is all =
    let Q : List ℕ → Type 0 = λ xs. All P xs in
    subst Q (sym is) (all_mapped _ _ P read places all)

pub can_search : (base : Tables) (places : List Place) (lines : LineColumns) (masks : Masks)
    → All (IsWithin base.dimensions) places → AreLinesOf places lines → CoverRows base.dimensions masks
    → CanSearch lines masks
can_search base places lines masks within are cover =
    let d = base.dimensions in
    record {
      customers = covers masks.customers (length d.customers) lines.customer.now cover.customer_rows
          (below_in (λ p. p < length d.customers) (λ place. place.customer) places lines.customer.now are.customers_are
          (λ k e below. (within k e below).customer));
      suppliers = covers masks.suppliers (length d.suppliers) lines.supplier.now cover.supplier_rows
          (below_in (λ p. p < length d.suppliers) (λ place. place.supplier) places lines.supplier.now are.suppliers_are
          (λ k e below. (within k e below).supplier));
      parts = covers masks.parts (length d.parts) lines.part.now cover.part_rows
          (below_in (λ p. p < length d.parts) (λ place. place.part) places lines.part.now are.parts_are
          (λ k e below. (within k e below).part));
      dates = covers masks.dates (length d.dates) lines.date.now cover.date_rows
          (below_in (λ p. p < length d.dates) (λ place. place.date) places lines.date.now are.dates_are
          (λ k e below. (within k e below).date));
      terms = below_in (λ t. t < length masks.terms) (λ place. place.terms) places lines.terms.now are.terms_are
          (λ k e below. let quantity = (within k e below).quantity in omega (arith, quantity, cover.codes));
    }

-- Masks as slices.
use Rattle.std.specs.Prelude.{Bool}
use Rattle.scan_kernel.specs.declared.masks.Masks.{Masks}
use Rattle.scan_kernel.specs.declared.search.MaskSlices.{MaskSlices}
use Rattle.scan_kernel.specs.Places.{tested}

-- the masks that the tables are, where the flags say which dimensions are tested
abbrev pub masks_of : Bool → Bool → Bool → Bool → MaskSlices → Masks
masks_of customers suppliers parts dates tables = record {
  customers = tested customers tables.customers.now;
  suppliers = tested suppliers tables.suppliers.now;
  parts = tested parts tables.parts.now;
  dates = tested dates tables.dates.now;
  terms = tables.terms.now;
}

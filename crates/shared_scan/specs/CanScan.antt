-- What the loops need of columns and masks.
use Rattle.std.specs.Prelude.{All, List}
use Rattle.ssb_base.specs.Base.{Tables}
use Rattle.fact_columns.specs.declared.place.Place.{Place}
use Rattle.fact_columns.specs.Places.{IsWithin}
use Rattle.scan_kernel.specs.declared.columns.LineColumns.{LineColumns}
use Rattle.scan_kernel.specs.declared.masks.Masks.{Masks}
use Rattle.scan_kernel.specs.Places.{CanSearch}
use Rattle.shared_scan.specs.Laws.{AreLinesOf}
use Rattle.shared_scan.specs.Masking.{CoverRows}

-- columns of places within the dimensions can be searched by masks that cover their rows
abbrev pub PlacesCanBeSearched : Type 0
PlacesCanBeSearched =
    (base : Tables) (places : List Place) (lines : LineColumns) (masks : Masks)
    → All (IsWithin base.dimensions) places → AreLinesOf places lines → CoverRows base.dimensions masks
    → CanSearch lines masks

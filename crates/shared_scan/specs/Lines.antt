-- The columns of the fact table, as the loops read them.
use Rattle.std.specs.Prelude.{◌<◌, ◌≤◌, ◌^◌, All, List, length}
use Rattle.ssb_base.specs.Base.{Tables}
use Rattle.ssb_base.specs.Limits.{most_lines}
use Rattle.fact_columns.specs.declared.place.Place.{Place}
use Rattle.scan_kernel.specs.declared.columns.LineColumns.{LineColumns}
use Rattle.fact_columns.specs.Columns.{AreColumnsOf}
use Rattle.fact_columns.specs.Places.{live_facts}
use Rattle.fact_columns.specs.Classed.{IsPlaceOf}

-- the places are within the dimensions and have the classes of their rows, and no more of them are live than a fact
-- table may have lines
pub record AreOfBase (base : Tables) (places : List Place) : Type 0 where
  pub within : All (IsPlaceOf base.dimensions) places
  pub few : length places < 2 ^ 32
  pub few_live : length (live_facts base.dimensions places) ≤ most_lines

-- the columns are those of some such places
pub record HavePlaces (base : Tables) (lines : LineColumns) : Type 0 where
  pub places : List Place
  pub columns_are : AreColumnsOf places lines
  pub of_base : AreOfBase base places

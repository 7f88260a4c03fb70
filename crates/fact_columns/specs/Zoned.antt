-- The zones of a table: of each chunk of places and each dimension the coarse codes of the rows that its lines name.
use Rattle.std.specs.Prelude.{ℕ, ◌≡◌, ◌+◌, ◌*◌, ◌/◌, ◌≤◌, List, [], length, map, slice_index}
use Rattle.scan_kernel.specs.Zones.{AreZonesOf, HasCode, chunk_size, coarse}
use Rattle.fact_columns.specs.declared.place.Place.{Place}
use Rattle.fact_columns.specs.declared.scanned_line.ScannedLine.{ScannedLine}
use Rattle.fact_columns.specs.declared.table_zones.TableZones.{TableZones}
use Rattle.fact_columns.specs.Columns.{Held}
use Rattle.fact_columns.specs.ZoneSets.{Sets}

-- there is a set for each chunk of so many places
abbrev pub Cover : ℕ → Sets → Type 0
Cover count zones = count ≤ chunk_size * length zones.sets

-- each chunk has the codes that it had, of the same coding, and there are no fewer chunks
pub record KeepSets (old new : Sets) : Type 0 where
  pub codes_are : new.codes ≡ old.codes
  pub as_many : length old.sets ≤ length new.sets
  pub kept : (chunk code : ℕ) → HasCode (slice_index old.sets chunk) code → HasCode (slice_index new.sets chunk) code

-- the row's code is in the set of the place's chunk
abbrev pub HasRow : Sets → ℕ → ℕ → Type 0
HasRow zones place row = HasCode (slice_index zones.sets (place / chunk_size)) (coarse zones.codes row)

-- there are no sets yet
pub record AreEmpty (zones : TableZones) : Type 0 where
  pub customers : zones.customers.sets ≡ []
  pub suppliers : zones.suppliers.sets ≡ []
  pub parts : zones.parts.sets ≡ []
  pub dates : zones.dates.sets ≡ []

-- the same of all four dimensions
pub record CoverAll (count : ℕ) (zones : TableZones) : Type 0 where
  pub customers : Cover count zones.customers
  pub suppliers : Cover count zones.suppliers
  pub parts : Cover count zones.parts
  pub dates : Cover count zones.dates

pub record KeepAll (old new : TableZones) : Type 0 where
  pub customers : KeepSets old.customers new.customers
  pub suppliers : KeepSets old.suppliers new.suppliers
  pub parts : KeepSets old.parts new.parts
  pub dates : KeepSets old.dates new.dates

-- the chunk of a place has the line that stands there
pub record HasLine (zones : TableZones) (at : ℕ) (line : ScannedLine) : Type 0 where
  pub customer : HasRow zones.customers at line.customer
  pub supplier : HasRow zones.suppliers at line.supplier
  pub part : HasRow zones.parts at line.part
  pub date : HasRow zones.dates at line.date

-- each place is in its chunk's sets
pub record AreZonesOfPlaces (zones : TableZones) (places : List Place) : Type 0 where
  pub customers : AreZonesOf zones.customers.codes zones.customers.sets (map (λ place. place.customer_class) places)
  pub suppliers : AreZonesOf zones.suppliers.codes zones.suppliers.sets (map (λ place. place.supplier_class) places)
  pub parts : AreZonesOf zones.parts.codes zones.parts.sets (map (λ place. place.part_class) places)
  pub dates : AreZonesOf zones.dates.codes zones.dates.sets (map (λ place. place.date_class) places)

-- what a table is made of: its columns, and their zones, which have a chunk for each place that there is memory for
pub record AreTableZones (columns : Held) (zones : TableZones) : Type 0 where
  pub zoned : AreZonesOfPlaces zones columns.places
  pub covered : CoverAll (length columns.places + columns.room) zones

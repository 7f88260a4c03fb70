-- Zones after a line is written, and after one more.
use Rattle.std.proofs.Common.{◌≡◌, ◌≢◌, ◌⊎◌, inl, inr, true, false, eqb, ℕ, ◌+◌, ◌<◌, ◌≤◌, ◌/◌, ◌∙◌, List, [], ◌∷◌, ◌++◌, map, set, get_or, length}
use Rattle.std.proofs.Common.{refl, ap, sym, subst, arith}
use Rattle.std.proofs.lemmas.List.{map-set, map_push, length-map, length-set, length-append}
use Rattle.std.proofs.lemmas.List.{get_or-set_same, get_or-set_other, get_or_push, get_or_append_left}
use Rattle.std.proofs.lemmas.Bool.Decides.{eqb_tells}
use Rattle.std.proofs.Math.Seq.{map-set_same}
use Rattle.scan_kernel.specs.Zones.{AreZonesOf, HasCode, chunk_size, coarse}
use Rattle.fact_columns.specs.declared.place.Place.{Place}
use Rattle.fact_columns.specs.declared.table_zones.TableZones.{TableZones}
use Rattle.fact_columns.specs.Columns.{Held}
use Rattle.fact_columns.specs.Places.{freed}
use Rattle.fact_columns.specs.Watching.{scanned_line}
use Rattle.fact_columns.specs.Zoned.{AreTableZones, AreZonesOfPlaces, CoverAll, HasLine, HasRow, KeepAll, KeepSets}
use Rattle.fact_columns.specs.ZoneSets.{Sets}

-- sets that were not touched
pub keep_same : (zones : Sets) → KeepSets zones zones
keep_same zones = record { codes_are = refl; as_many = omega arith; kept = λ chunk code h. h }

pub keep_on : (old mid new : Sets) → KeepSets old mid → KeepSets mid new → KeepSets old new
keep_on old mid new h j = record {
  codes_are = j.codes_are ∙ h.codes_are;
  as_many = omega (arith, h.as_many, j.as_many);
  kept = λ chunk code has. j.kept chunk code (h.kept chunk code has);
}

pub keep_all_same : (zones : TableZones) → KeepAll zones zones
keep_all_same zones = record {
  customers = keep_same zones.customers;
  suppliers = keep_same zones.suppliers;
  parts = keep_same zones.parts;
  dates = keep_same zones.dates;
}

pub keep_all_on : (old mid new : TableZones) → KeepAll old mid → KeepAll mid new → KeepAll old new
keep_all_on old mid new h j = record {
  customers = keep_on old.customers mid.customers new.customers h.customers j.customers;
  suppliers = keep_on old.suppliers mid.suppliers new.suppliers h.suppliers j.suppliers;
  parts = keep_on old.parts mid.parts new.parts h.parts j.parts;
  dates = keep_on old.dates mid.dates new.dates h.dates j.dates;
}

pub cover_on : (count fewer : ℕ) (old new : TableZones) → KeepAll old new → CoverAll count old → fewer ≤ count
    → CoverAll fewer new
cover_on count fewer old new keep cover less = record {
  customers = omega (arith, keep.customers.as_many, cover.customers, less);
  suppliers = omega (arith, keep.suppliers.as_many, cover.suppliers, less);
  parts = omega (arith, keep.parts.as_many, cover.parts, less);
  dates = omega (arith, keep.dates.as_many, cover.dates, less);
}

-- the same zones, read elsewhere
pub zoned_read : (codes sets rows own_codes own_sets own_rows : List ℕ) → codes ≡ own_codes → sets ≡ own_sets
    → rows ≡ own_rows → AreZonesOf own_codes own_sets own_rows → AreZonesOf codes sets rows
zoned_read codes sets rows own_codes own_sets own_rows same_codes same_sets same_rows h =
    subst (λ (all : List ℕ × List ℕ × List ℕ). AreZonesOf all.0 all.1 all.2)
    (λ i. (sym same_codes i, sym same_sets i, sym same_rows i)) h

-- one dimension
module _ (old new : Sets) (rows : List ℕ) (keep : KeepSets old new) (h : AreZonesOf old.codes old.sets rows) where
  pub zoned_kept : AreZonesOf new.codes new.sets rows
  zoned_kept place within =
      subst (λ codes. HasCode (get_or new.sets (place / chunk_size) 0) (coarse codes (get_or rows place 0)))
      (sym keep.codes_are) (keep.kept _ _ (h place within))

  pub zoned_set : (at row : ℕ) → at < length rows → HasRow new at row → AreZonesOf new.codes new.sets (set rows at row)
  zoned_set at row inside here place within = split (eqb_tells place at) where
    go_same : place ≡ at → HasCode (get_or new.sets (place / chunk_size) 0)
        (coarse new.codes (get_or (set rows at row) place 0))
    go_same same = rw (same, get_or-set_same rows at row 0 inside) here

    go_other : place ≢ at → HasCode (get_or new.sets (place / chunk_size) 0)
        (coarse new.codes (get_or (set rows at row) place 0))
    go_other other = rw (get_or-set_other rows at place row 0 other)
        (zoned_kept place (omega (arith, within, length-set rows at row)))

    split : ((eqb place at ≡ true) × (place ≡ at)) ⊎ ((eqb place at ≡ false) × (place ≢ at))
        → HasCode (get_or new.sets (place / chunk_size) 0) (coarse new.codes (get_or (set rows at row) place 0))
    split (inl both) = go_same both.1
    split (inr both) = go_other both.1

  pub zoned_push : (at row : ℕ) → length rows ≡ at → HasRow new at row → AreZonesOf new.codes new.sets (rows ++ row ∷ [])
  zoned_push at row long here place within = split (eqb_tells place at) where
    go_same : place ≡ at → HasCode (get_or new.sets (place / chunk_size) 0)
        (coarse new.codes (get_or (rows ++ row ∷ []) place 0))
    go_same same = rw (same, get_or_push rows row 0 at long) here

    go_other : place ≢ at → HasCode (get_or new.sets (place / chunk_size) 0)
        (coarse new.codes (get_or (rows ++ row ∷ []) place 0))
    go_other other =
        let before : place < length rows = omega (arith, within, length-append rows (row ∷ []), long, other) in
        rw (get_or_append_left rows (row ∷ []) 0 place before) (zoned_kept place before)

    split : ((eqb place at ≡ true) × (place ≡ at)) ⊎ ((eqb place at ≡ false) × (place ≢ at))
        → HasCode (get_or new.sets (place / chunk_size) 0) (coarse new.codes (get_or (rows ++ row ∷ []) place 0))
    split (inl both) = go_same both.1
    split (inr both) = go_other both.1

-- of a table, after a write, after one place more, and after a place is freed
module _ (old new : TableZones) (places : List Place) (keep : KeepAll old new) (h : AreZonesOfPlaces old places) where
  within_rows : (f : Place → ℕ) (at : ℕ) → at < length places → at < length (map f places)
  within_rows f at within = omega (arith, within, length-map places f)

  pub zones_write : (at : ℕ) (with : Place) → at < length places → HasLine new at (scanned_line with)
      → AreZonesOfPlaces new (set places at with)
  zones_write at with within here = record {
    customers = rw (map-set (λ (p : Place). p.customer_class) places at with) (zoned_set old.customers new.customers _
        keep.customers h.customers at with.customer_class (within_rows (λ p. p.customer_class) at within) here.customer);
    suppliers = rw (map-set (λ (p : Place). p.supplier_class) places at with) (zoned_set old.suppliers new.suppliers _
        keep.suppliers h.suppliers at with.supplier_class (within_rows (λ p. p.supplier_class) at within) here.supplier);
    parts = rw (map-set (λ (p : Place). p.part_class) places at with) (zoned_set old.parts new.parts _
        keep.parts h.parts at with.part_class (within_rows (λ p. p.part_class) at within) here.part);
    dates = rw (map-set (λ (p : Place). p.date_class) places at with) (zoned_set old.dates new.dates _
        keep.dates h.dates at with.date_class (within_rows (λ p. p.date_class) at within) here.date);
  }

  as_many_rows : (f : Place → ℕ) (at : ℕ) → length places ≡ at → length (map f places) ≡ at
  as_many_rows f at long = length-map places f ∙ long

  pub zones_push : (at : ℕ) (with : Place) → length places ≡ at → HasLine new at (scanned_line with)
      → AreZonesOfPlaces new (places ++ with ∷ [])
  zones_push at with long here = record {
    customers = rw (map_push (λ (p : Place). p.customer_class) places with) (zoned_push old.customers new.customers _
        keep.customers h.customers at with.customer_class (as_many_rows (λ p. p.customer_class) at long) here.customer);
    suppliers = rw (map_push (λ (p : Place). p.supplier_class) places with) (zoned_push old.suppliers new.suppliers _
        keep.suppliers h.suppliers at with.supplier_class (as_many_rows (λ p. p.supplier_class) at long) here.supplier);
    parts = rw (map_push (λ (p : Place). p.part_class) places with) (zoned_push old.parts new.parts _
        keep.parts h.parts at with.part_class (as_many_rows (λ p. p.part_class) at long) here.part);
    dates = rw (map_push (λ (p : Place). p.date_class) places with) (zoned_push old.dates new.dates _
        keep.dates h.dates at with.date_class (as_many_rows (λ p. p.date_class) at long) here.date);
  }

pub zones_free : (zones : TableZones) (places : List Place) (at : ℕ) (other : Place) → AreZonesOfPlaces zones places
    → AreZonesOfPlaces zones (set places at (freed (get_or places at other)))
zones_free zones places at other h = record {
  customers = rw (map-set_same (λ (p : Place). p.customer_class) places at (freed (get_or places at other)) other refl)
      h.customers;
  suppliers = rw (map-set_same (λ (p : Place). p.supplier_class) places at (freed (get_or places at other)) other refl)
      h.suppliers;
  parts = rw (map-set_same (λ (p : Place). p.part_class) places at (freed (get_or places at other)) other refl)
      h.parts;
  dates = rw (map-set_same (λ (p : Place). p.date_class) places at (freed (get_or places at other)) other refl)
      h.dates;
}

-- a place of zeros, where any will do
pub no_place : Place
no_place = record {
  order = 0;
  customer = 0;
  supplier = 0;
  part = 0;
  date = 0;
  terms = 0;
  price = 0;
  revenue = 0;
  cost = 0;
  customer_class = 0;
  supplier_class = 0;
  part_class = 0;
  date_class = 0;
}

-- zones of a table after a write, after one place more, and after a place is freed
pub table_written : (columns later : Held) (old new : TableZones) (at : ℕ) (with : Place) → AreTableZones columns old
    → at < length columns.places → later.places ≡ set columns.places at with → later.room ≡ columns.room
    → KeepAll old new → HasLine new at (scanned_line with) → AreTableZones later new
table_written columns later old new at with h within places room keep here = record {
  zoned = subst (AreZonesOfPlaces new) (sym places)
      (zones_write old new columns.places keep h.zoned at with within here);
  covered = cover_on (length columns.places + columns.room) _ old new keep h.covered
      (omega (arith, ap length places, length-set columns.places at with, room));
}

pub table_pushed : (columns later : Held) (old new : TableZones) (at : ℕ) (with : Place) → AreTableZones columns old
    → length columns.places ≡ at → later.places ≡ columns.places ++ with ∷ [] → columns.room ≡ later.room + 1
    → KeepAll old new → HasLine new at (scanned_line with) → AreTableZones later new
table_pushed columns later old new at with h long places room keep here = record {
  zoned = subst (AreZonesOfPlaces new) (sym places)
      (zones_push old new columns.places keep h.zoned at with long here);
  covered = cover_on (length columns.places + columns.room) _ old new keep h.covered
      (omega (arith, ap length places, length-append columns.places (with ∷ []), room));
}

pub table_freed : (columns later : Held) (zones : TableZones) (at : ℕ) → AreTableZones columns zones
    → ((other : Place) → later.places ≡ set columns.places at (freed (get_or columns.places at other)))
    → later.room ≡ columns.room → AreTableZones later zones
table_freed columns later zones at h places room = record {
  zoned = subst (AreZonesOfPlaces zones) (sym (places no_place))
      (zones_free zones columns.places at no_place h.zoned);
  covered = cover_on (length columns.places + columns.room) _ zones zones (keep_all_same zones) h.covered
      (omega (
        arith,
        ap length (places no_place),
        length-set columns.places at (freed (get_or columns.places at no_place)),
        room,
      ));
}

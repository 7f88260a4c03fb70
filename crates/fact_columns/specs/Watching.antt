-- What follows the live lines as they come and go.
use Rattle.std.specs.Prelude.{◌≡◌, List, ◌∷◌, ◌++◌, map, filter}
use Rattle.ssb_base.specs.Base.{Tables}
use Rattle.fact_columns.specs.declared.place.Place.{Place}
use Rattle.fact_columns.specs.declared.scanned_line.ScannedLine.{ScannedLine}
use Rattle.fact_columns.specs.Places.{is_live}

-- the line at a place, as queries read it
abbrev pub scanned_line : Place → ScannedLine
scanned_line place = record {
  customer = place.customer_class;
  supplier = place.supplier_class;
  part = place.part_class;
  date = place.date_class;
  terms = place.terms;
  price = place.price;
  revenue = place.revenue;
  cost = place.cost;
}

-- the live ones among places
abbrev pub live_places : List Place → List Place
live_places places = filter is_live places

-- their lines, as queries read them
abbrev pub live_lines : List Place → List ScannedLine
live_lines places = map scanned_line (live_places places)

-- the list has an item more, somewhere
pub record IsOneMore {A : Type 0} (item : A) (fewer more : List A) : Type 0 where
  pub before : List A
  pub after : List A
  pub fewer_is : fewer ≡ before ++ after
  pub more_is : more ≡ before ++ item ∷ after

-- what follows the live lines of the old places then follows those of the new, over the same base
abbrev pub FollowsOn : {W : Type 0} → (W → Tables → List ScannedLine → Type 0) → W → W → List Place → List Place
    → Type 0
FollowsOn follows before after old new =
    (base : Tables) → follows before base (live_lines old) → follows after base (live_lines new)

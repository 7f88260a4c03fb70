-- The lines of the fact table as its columns have them.
use Rattle.std.specs.Prelude.{ℕ, ◌+◌, ◌*◌, ◌/◌, ◌%◌, ◌<◌, ◌≤◌, Bool, not, ◌==◌, List, length, map, filter, slice_get}
use Rattle.std.specs.Prelude.{◌^◌}
use Rattle.std.specs.Option.{option_map_or}
use Rattle.ssb_schema.specs.declared.fact.Fact.{Fact}
use Rattle.ssb_base.specs.Base.{Dimensions, customer_key, supplier_key, part_key, date_key}
use Rattle.fact_columns.specs.declared.place.Place.{Place}

-- quantity and discount in one code, and read back; a discount is below 16
abbrev pub terms_of : ℕ → ℕ → ℕ
terms_of quantity discount = quantity * 16 + discount

abbrev pub quantity_in : ℕ → ℕ
quantity_in terms = terms / 16

abbrev pub discount_in : ℕ → ℕ
discount_in terms = terms % 16

-- a place holds a live line where its quantity is not 0; else it is free
abbrev pub is_live : Place → Bool
is_live place = not (quantity_in place.terms == 0)

-- the place, freed: only its quantity and discount are written over
abbrev pub freed : Place → Place
freed place = record place { terms = 0 }

-- the key of the row at a position
abbrev pub key_at : {R : Type 0} → (R → ℕ) → List R → ℕ → ℕ
key_at key rows position = option_map_or key (slice_get rows position) 0

-- the fact at a place, its positions read back as keys
abbrev pub fact_at : Dimensions → Place → Fact
fact_at dimensions place = record {
  order_key = place.order;
  customer = key_at customer_key dimensions.customers place.customer;
  supplier = key_at supplier_key dimensions.suppliers place.supplier;
  part = key_at part_key dimensions.parts place.part;
  date = key_at date_key dimensions.dates place.date;
  quantity = quantity_in place.terms;
  discount = discount_in place.terms;
  price = place.price;
  revenue = place.revenue;
  cost = place.cost;
}

-- the facts of the live places, in the order of the places
abbrev pub live_facts : Dimensions → List Place → List Fact
live_facts dimensions places = map (fact_at dimensions) (filter is_live places)

-- a place, live or free, names rows that are there by their positions, and its numbers are those of lines
pub record IsWithin (dimensions : Dimensions) (place : Place) : Type 0 where
  pub customer : place.customer < length dimensions.customers
  pub supplier : place.supplier < length dimensions.suppliers
  pub part : place.part < length dimensions.parts
  pub date : place.date < length dimensions.dates
  pub quantity : quantity_in place.terms ≤ 50
  pub discount : discount_in place.terms ≤ 10
  pub price : place.price < 2 ^ 32
  pub revenue : place.revenue < 2 ^ 32
  pub cost : place.cost < 2 ^ 32

-- How the rows of a dimension are found by key.
use Rattle.std.specs.Prelude.{◌≡◌, ℕ, List, Option, is_some, slice_get}
use Rattle.std.specs.Option.{option_and_then}
use Rattle.ssb_base.specs.Base.{Dimensions, has_key, row_with, customer_key, supplier_key, part_key, date_key}
use Rattle.ssb_base.specs.Places.{place_in}
use Rattle.ssb_base.specs.declared.index.Index.{Index}
use Rattle.ssb_base.specs.declared.index.Indexes.{Indexes}

-- the place that the index has for a key
abbrev pub place_of : Index → ℕ → Option ℕ
place_of index k = place_in index.places k

-- the index has the keys of the first rows, each with the place of its row
pub record IsIndexOf {R : Type 0} (key : R → ℕ) (first rows : List R) (places : ℕ → Option ℕ) : Type 0 where
  pub contains : (k : ℕ) → is_some (places k) ≡ has_key key first k
  pub finds : (k : ℕ) → row_with key first k ≡ option_and_then (slice_get rows) (places k)

-- the indexes of the four dimensions
pub record AreIndexesOf (indexes : Indexes) (dimensions : Dimensions) : Type 0 where
  pub customers : IsIndexOf customer_key dimensions.customers dimensions.customers (place_of indexes.customers)
  pub suppliers : IsIndexOf supplier_key dimensions.suppliers dimensions.suppliers (place_of indexes.suppliers)
  pub parts : IsIndexOf part_key dimensions.parts dimensions.parts (place_of indexes.parts)
  pub dates : IsIndexOf date_key dimensions.dates dimensions.dates (place_of indexes.dates)

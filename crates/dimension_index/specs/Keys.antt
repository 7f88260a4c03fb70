-- The keys of a dimension, and the positions of its rows.
use Rattle.std.specs.Prelude.{ℕ, List, [], map, nat_eq, Option}
use Rattle.std.specs.List.{position}
use Rattle.ssb_schema.specs.declared.table.Table.{Table}
use Rattle.ssb_schema.specs.declared.table.Table.TheVariants as table
use Rattle.ssb_base.specs.Base.{Tables, customer_key, supplier_key, part_key, date_key}

-- the primary keys of a dimension, row by row; the fact table is no dimension and has none
abbrev pub keys_of : Tables → Table → List ℕ
keys_of base table.Customer = map customer_key base.dimensions.customers
keys_of base table.Supplier = map supplier_key base.dimensions.suppliers
keys_of base table.Part = map part_key base.dimensions.parts
keys_of base table.Date = map date_key base.dimensions.dates
keys_of base table.Lineorder = []

-- where a key stands first
abbrev pub position_in : List ℕ → ℕ → Option ℕ
position_in keys key = position (λ own. nat_eq own key) keys

-- the position, counted from 0, of the row that has the key
abbrev pub position_of : Tables → Table → ℕ → Option ℕ
position_of base t key = position_in (keys_of base t) key

-- Classes of rows: a row's class is the position of the first row that no query can tell from it.
use Rattle.std.specs.Prelude.{ℕ, ◌+◌, Bool, List, [], ◌∷◌, map, fold, length, nat_lt, slice_index_or, take, unwrap_or}
use Rattle.std.specs.Prelude.{if◌then◌else◌}
use Rattle.std.specs.List.{list_all, position, range_with_len}
use Rattle.ssb_schema.specs.declared.table.Table.{Table}
use Rattle.ssb_schema.specs.declared.table.Table.TheVariants as table
use Rattle.ssb_schema.specs.declared.column.Column.{Column}
use Rattle.ssb_base.specs.Base.{Dimensions, Tables}
use Rattle.ssb_schema.specs.Columns.{C_CITY, C_NATION, C_REGION, C_MKTSEGMENT, S_CITY, S_NATION, S_REGION, P_MFGR}
use Rattle.ssb_schema.specs.Columns.{P_CATEGORY, P_BRAND1, D_DATEKEY, D_DAYOFWEEK, D_MONTH, D_YEAR, D_YEARMONTHNUM}
use Rattle.ssb_schema.specs.Columns.{D_YEARMONTH, D_WEEKNUMINYEAR, D_SELLINGSEASON, D_HOLIDAYFL}
use Rattle.ssb_questions.specs.declared.value.Value.{Value}
use Rattle.ssb_questions.specs.declared.value.Value.TheVariants.{Number}
use Rattle.dimension_index.specs.Codes.{is_same}
use Rattle.dimension_index.specs.Kept.{unread}
use Rattle.dimension_index.specs.Values.{values_in}
use Rattle.dimension_index.specs.declared.first_rows.Extents.{Extents}

-- the columns by which queries tell a dimension's rows apart; where there are three, with the one at place 0, which
-- stands for all others and tells none apart
abbrev pub telling_columns : Table → List Column
telling_columns table.Customer = C_CITY ∷ C_NATION ∷ C_REGION ∷ C_MKTSEGMENT ∷ []
telling_columns table.Supplier = S_CITY ∷ S_NATION ∷ S_REGION ∷ unread table.Supplier ∷ []
telling_columns table.Part = P_MFGR ∷ P_CATEGORY ∷ P_BRAND1 ∷ unread table.Part ∷ []
telling_columns table.Date =
    D_DATEKEY ∷ D_DAYOFWEEK ∷ D_MONTH ∷ D_YEAR ∷ D_YEARMONTHNUM ∷ D_YEARMONTH ∷ D_WEEKNUMINYEAR ∷ D_SELLINGSEASON
    ∷ D_HOLIDAYFL ∷ []
telling_columns table.Lineorder =
    unread table.Lineorder ∷ unread table.Lineorder ∷ unread table.Lineorder ∷ unread table.Lineorder ∷ []

-- each as its values row by row
abbrev pub read_columns : Dimensions → Table → List (List Value)
read_columns d t = map (λ column. values_in d column.table column.place) (telling_columns t)

-- how many rows a dimension has; the fact table is no dimension
abbrev pub rows_in : Dimensions → Table → ℕ
rows_in d table.Customer = length d.customers
rows_in d table.Supplier = length d.suppliers
rows_in d table.Part = length d.parts
rows_in d table.Date = length d.dates
rows_in d table.Lineorder = 0

-- whether the rows at two positions have the same value in each of these columns
abbrev pub are_alike : List (List Value) → ℕ → ℕ → Bool
are_alike columns p q =
    list_all (λ column. is_same (slice_index_or column p (Number 0)) (slice_index_or column q (Number 0))) columns

-- of so many rows, the position of the first that is like the one at a position
abbrev pub class_at : List (List Value) → ℕ → ℕ → ℕ
class_at columns count p = unwrap_or (position (are_alike columns p) (range_with_len 0 count)) 0

abbrev pub classes_by : List (List Value) → ℕ → List ℕ
classes_by columns count = map (class_at columns count) (range_with_len 0 count)

-- the class of each row of a dimension
unfoldable pub classes_of : Dimensions → Table → List ℕ
classes_of d t = classes_by (read_columns d t) (rows_in d t)

-- the number of rows up to the last that begins a class
abbrev pub extent_of : List ℕ → ℕ
extent_of classes = fold (λ most class. if nat_lt most (class + 1) then class + 1 else most) 0 classes

-- the first rows of each dimension as a base, without lines
abbrev pub first_rows : Tables → Extents → Tables
first_rows base extents = record {
  limits = base.limits;
  dimensions = record {
    customers = take extents.customers base.dimensions.customers;
    suppliers = take extents.suppliers base.dimensions.suppliers;
    parts = take extents.parts base.dimensions.parts;
    dates = take extents.dates base.dimensions.dates;
  };
  lines = [];
}

abbrev pub extents : Dimensions → Extents
extents d = record {
  customers = extent_of (classes_of d table.Customer);
  suppliers = extent_of (classes_of d table.Supplier);
  parts = extent_of (classes_of d table.Part);
  dates = extent_of (classes_of d table.Date);
}

-- the base of the rows that begin a class, and of those between them
abbrev pub reduced : Tables → Tables
reduced base = first_rows base (extents base.dimensions)

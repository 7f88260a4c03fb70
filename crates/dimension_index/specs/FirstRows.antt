-- What the index of the first rows keeps.
use Rattle.std.specs.Prelude.{◌≡◌, map}
use Rattle.ssb_base.specs.Base.{Tables}
use Rattle.dimension_index.specs.Classes.{first_rows}
use Rattle.dimension_index.specs.Values.{values_of}
use Rattle.dimension_index.specs.Kept.{kept_columns}
use Rattle.dimension_index.specs.declared.first_rows.FirstRows.TheInside.{Inside}

-- the rows, as a base of their own
abbrev pub rows_of : Inside → Tables
rows_of rows = first_rows rows.base.value rows.extents

-- the kept columns, one by one
abbrev pub AreFirstRows : Inside → Type 0
AreFirstRows rows = rows.columns.items ≡ map (values_of (rows_of rows)) kept_columns

-- The columns that the index keeps in codes.
use Rattle.std.specs.Prelude.{List, [], ◌∷◌, ◌++◌}
use Rattle.ssb_schema.specs.declared.table.Table.{Table}
use Rattle.ssb_schema.specs.declared.table.Table.TheVariants as table
use Rattle.ssb_schema.specs.declared.column.Column.{Column}
use Rattle.ssb_schema.specs.Columns.{query_columns}

-- the column at place 0, where no table has one: it stands for all of the table's columns that no query reads
abbrev pub unread : Table → Column
unread t = record { table = t; place = 0 }

abbrev pub unread_columns : List Column
unread_columns =
    unread table.Customer ∷ unread table.Supplier ∷ unread table.Part ∷ unread table.Date ∷ unread table.Lineorder ∷ []

-- those that queries test or group by, and for each table one that stands for its others
abbrev pub kept_columns : List Column
kept_columns = query_columns ++ unread_columns

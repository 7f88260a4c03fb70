-- The text of records and of the five tables, as their files have it.
use Rattle.std.specs.Prelude.{ℕ, List, [], ◌∷◌, ◌++◌, map, flat_map, decimal}
use Rattle.std.specs.List.{join_with_byte}
use Rattle.ssb_base.specs.Base.{Tables}
use Rattle.ssb_schema.specs.Columns.{Value, Number, Text, value_of}
use Rattle.ssb_schema.specs.declared.kind.Cell.{Cell}
use Rattle.ssb_schema.specs.declared.table.Table.{Table}
use Rattle.ssb_text.specs.Load.{values_in}
use Rattle.ssb_text.specs.Numbers.{line_feed}

-- the fields of a record behind its first, each behind a bar, and the end of the line
abbrev pub fields_text : List (List ℕ) → List ℕ
fields_text [] = line_feed
fields_text (field ∷ fields) = 124 ∷ (field ++ fields_text fields)

-- a record: its first field, which is a word or a key, and the others
abbrev pub record_text : List ℕ → List (List ℕ) → List ℕ
record_text first fields = first ++ fields_text fields

-- a column of a row, and a cell
abbrev pub column_text : Value → List ℕ
column_text (Number n) = decimal n
column_text (Text bytes) = bytes

abbrev pub cell_text : Cell → List ℕ
cell_text cell = column_text (value_of cell)

-- a row: its columns, parted by bars, and the end of the line
abbrev pub row_text : List Value → List ℕ
row_text values = join_with_byte 124 (map column_text values) ++ line_feed

-- the rows of a table, one after another
abbrev pub rows_text : List (List Value) → List ℕ
rows_text rows = flat_map row_text rows

-- the texts of a base, table by table
abbrev pub base_texts : Tables → Table → List ℕ
base_texts base t = rows_text (values_in base t)

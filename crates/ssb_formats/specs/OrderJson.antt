-- An order as a JSON object on a line.
use Rattle.std.specs.Prelude.{ℕ, List, map, codes}
use Rattle.serde_json.specs.Data.{Data, Members, number, unsigned, member, no_members}
use Rattle.ssb_schema.specs.Columns.{Value, Number, Text, columns_of}
use Rattle.ssb_schema.specs.Rows.{line_values}
use Rattle.ssb_schema.specs.declared.line.LineFields.{LineFields}
use Rattle.ssb_schema.specs.declared.table.Table.TheVariants.{Lineorder}
use Rattle.ssb_report.specs.declared.order.ShownOrder.{ShownOrder}
use Rattle.ssb_report.specs.declared.order.ShownOrder.TheVariants.{Lines, Unserved}
use Rattle.ssb_formats.specs.JsonText.{list_data, text_data}

-- the names of the columns of lineorder
abbrev pub line_names : List (List ℕ)
line_names = map (λ column. column.name) (columns_of Lineorder)

-- a column of a line as a number or a text, and a line as the list of its columns
abbrev pub cell_data : Value → Data
cell_data (Number n) = number (unsigned n)
cell_data (Text text) = text_data text

abbrev pub line_data : LineFields → Data
line_data line = list_data (map cell_data (line_values line))

-- the members of the lines of an order after so many commits, in the order of their names
abbrev pub lines_members : ℕ → ℕ → List LineFields → Members
lines_members key at lines =
    member (codes "at") (number (unsigned at))
    (member (codes "columns") (list_data (map text_data line_names))
    (member (codes "lines") (list_data (map line_data lines))
    (member (codes "order") (number (unsigned key)) no_members)))

-- and of one without lines, since memory ran out
abbrev pub unserved_members : ℕ → Members
unserved_members key =
    member (codes "order") (number (unsigned key))
    (member (codes "unserved") (text_data (codes "out of memory")) no_members)

abbrev pub order_members : ShownOrder → Members
order_members (Lines key at lines) = lines_members key at lines
order_members (Unserved key) = unserved_members key

-- The names of the systems, and those of tables and columns in them.
use Rattle.std.specs.Prelude.{ℕ, Bool, true, false, List, [], ◌∷◌, codes, map}
use Rattle.std.specs.Char.{to_ascii_lowercase}
use Rattle.ssb_schema.specs.Columns.{column_name}
use Rattle.ssb_schema.specs.declared.column.Column.{Column}
use Rattle.ssb_schema.specs.declared.table.Table.{Table}
use Rattle.ssb_schema.specs.declared.table.Table.TheVariants.{Customer, Supplier, Part, Date, Lineorder}
use Rattle.ssb_explain.specs.declared.system.System.{System}
use Rattle.ssb_explain.specs.declared.system.System.TheVariants.{Sqlite, Postgresql, Clickhouse}

-- the names of the systems
abbrev pub system_name : System → List ℕ
system_name Sqlite = codes "sqlite"
system_name Postgresql = codes "postgresql"
system_name Clickhouse = codes "clickhouse"

-- the dimensions, in the order in which they are joined
abbrev pub dimensions : List Table
dimensions = Customer ∷ Supplier ∷ Part ∷ Date ∷ []

abbrev pub same_table : Table → Table → Bool
same_table Customer Customer = true
same_table Supplier Supplier = true
same_table Part Part = true
same_table Date Date = true
same_table Lineorder Lineorder = true
same_table _ _ = false

abbrev pub column_sql : Column → List ℕ
column_sql column = map to_ascii_lowercase (column_name column)

-- `date` is a word of SQL
abbrev pub table_sql : Table → List ℕ
table_sql Customer = codes "customer"
table_sql Supplier = codes "supplier"
table_sql Part = codes "part"
table_sql Date = codes "dwdate"
table_sql Lineorder = codes "lineorder"

-- the key of a table's rows
abbrev pub key_sql : Table → List ℕ
key_sql Customer = codes "c_custkey"
key_sql Supplier = codes "s_suppkey"
key_sql Part = codes "p_partkey"
key_sql Date = codes "d_datekey"
key_sql Lineorder = codes "lo_orderkey"

-- the key by which a line names its row
abbrev pub line_key_sql : Table → List ℕ
line_key_sql Customer = codes "lo_custkey"
line_key_sql Supplier = codes "lo_suppkey"
line_key_sql Part = codes "lo_partkey"
line_key_sql Date = codes "lo_orderdate"
line_key_sql Lineorder = codes "lo_orderkey"

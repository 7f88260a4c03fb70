-- The columns of the five tables: their names, their places and what they take; and the first fault of a row.
use Rattle.std.specs.Prelude.{ℕ, ◌+◌, Bool, not, ◌&&◌, ◌||◌, List, [], ◌∷◌, length, map, codes, find, Option}
use Rattle.std.specs.Prelude.{Some, None, option_map, unwrap_or, nat_lt, nat_eq, ◌==◌, if◌then◌else◌}
use Rattle.std.specs.List.{list_all, ends_with}
use Rattle.ssb_schema.specs.declared.table.Table.{Table}
use Rattle.ssb_schema.specs.declared.table.Table.TheVariants as table
use Rattle.ssb_schema.specs.declared.column.Column.{Column}
use Rattle.ssb_schema.specs.declared.kind.Kind.{Kind}
use Rattle.ssb_schema.specs.declared.kind.Kind.TheVariants as kind
use Rattle.ssb_schema.specs.declared.kind.Cell.{Cell}
use Rattle.ssb_schema.specs.declared.kind.Cell.TheVariants as cell
use Rattle.ssb_schema.specs.declared.fault.SchemaFault.{SchemaFault}
use Rattle.ssb_schema.specs.declared.fault.SchemaFault.TheVariants as fault

-- a column's value: a number, or the bytes of a text
pub data Value : Type 0 where
  Number : ℕ → Value
  Text : List ℕ → Value

abbrev pub value_of : Cell → Value
value_of (cell.Number n) = Number n
value_of (cell.Text t) = Text t.now

-- a key, an amount (a price or a number of a date), a text, a number in a range
abbrev pub key : Kind
key = kind.Number 0 18446744073709551615

abbrev pub amount : Kind
amount = kind.Number 0 4294967295

abbrev pub text : Kind
text = kind.Text

abbrev pub from : ℕ → ℕ → Kind
from least most = kind.Number least most

-- the name of a table, as its file has it
abbrev pub table_name : Table → List ℕ
table_name table.Customer = codes "customer"
table_name table.Supplier = codes "supplier"
table_name table.Part = codes "part"
table_name table.Date = codes "date"
table_name table.Lineorder = codes "lineorder"

-- a column as the benchmark has it: its place in the file of its table, counted from 1, its name, and what it takes
pub record Described : Type 0 where
  pub place : ℕ
  pub name : List ℕ
  pub kind : Kind

abbrev pub column : ℕ → List ℕ → Kind → Described
column place name takes = record { place = place; name = name; kind = takes }

-- the columns of each table, in the order of its file
abbrev pub columns_of : Table → List Described
columns_of table.Customer =
    column 1 (codes "C_CUSTKEY") key
    ∷ column 2 (codes "C_NAME") text
    ∷ column 3 (codes "C_ADDRESS") text
    ∷ column 4 (codes "C_CITY") text
    ∷ column 5 (codes "C_NATION") text
    ∷ column 6 (codes "C_REGION") text
    ∷ column 7 (codes "C_PHONE") text
    ∷ column 8 (codes "C_MKTSEGMENT") text ∷ []
columns_of table.Supplier =
    column 1 (codes "S_SUPPKEY") key
    ∷ column 2 (codes "S_NAME") text
    ∷ column 3 (codes "S_ADDRESS") text
    ∷ column 4 (codes "S_CITY") text
    ∷ column 5 (codes "S_NATION") text
    ∷ column 6 (codes "S_REGION") text
    ∷ column 7 (codes "S_PHONE") text ∷ []
columns_of table.Part =
    column 1 (codes "P_PARTKEY") key
    ∷ column 2 (codes "P_NAME") text
    ∷ column 3 (codes "P_MFGR") text
    ∷ column 4 (codes "P_CATEGORY") text
    ∷ column 5 (codes "P_BRAND1") text
    ∷ column 6 (codes "P_COLOR") text
    ∷ column 7 (codes "P_TYPE") text
    ∷ column 8 (codes "P_SIZE") text
    ∷ column 9 (codes "P_CONTAINER") text ∷ []
columns_of table.Date =
    column 1 (codes "D_DATEKEY") key
    ∷ column 2 (codes "D_DATE") text
    ∷ column 3 (codes "D_DAYOFWEEK") text
    ∷ column 4 (codes "D_MONTH") text
    ∷ column 5 (codes "D_YEAR") amount
    ∷ column 6 (codes "D_YEARMONTHNUM") amount
    ∷ column 7 (codes "D_YEARMONTH") text
    ∷ column 8 (codes "D_DAYNUMINWEEK") text
    ∷ column 9 (codes "D_DAYNUMINMONTH") text
    ∷ column 10 (codes "D_DAYNUMINYEAR") text
    ∷ column 11 (codes "D_MONTHNUMINYEAR") text
    ∷ column 12 (codes "D_WEEKNUMINYEAR") amount
    ∷ column 13 (codes "D_SELLINGSEASON") text
    ∷ column 14 (codes "D_LASTDAYINWEEKFL") text
    ∷ column 15 (codes "D_LASTDAYINMONTHFL") text
    ∷ column 16 (codes "D_HOLIDAYFL") text
    ∷ column 17 (codes "D_WEEKDAYFL") text ∷ []
columns_of table.Lineorder =
    column 1 (codes "LO_ORDERKEY") key
    ∷ column 2 (codes "LO_LINENUMBER") (from 1 7)
    ∷ column 3 (codes "LO_CUSTKEY") key
    ∷ column 4 (codes "LO_PARTKEY") key
    ∷ column 5 (codes "LO_SUPPKEY") key
    ∷ column 6 (codes "LO_ORDERDATE") key
    ∷ column 7 (codes "LO_ORDERPRIORITY") text
    ∷ column 8 (codes "LO_SHIPPRIORITY") text
    ∷ column 9 (codes "LO_QUANTITY") (from 1 50)
    ∷ column 10 (codes "LO_EXTENDEDPRICE") amount
    ∷ column 11 (codes "LO_ORDTOTALPRICE") amount
    ∷ column 12 (codes "LO_DISCOUNT") (from 0 10)
    ∷ column 13 (codes "LO_REVENUE") amount
    ∷ column 14 (codes "LO_SUPPLYCOST") amount
    ∷ column 15 (codes "LO_TAX") (from 0 8)
    ∷ column 16 (codes "LO_COMMITDATE") key
    ∷ column 17 (codes "LO_SHIPMODE") text ∷ []

-- the most columns of a table
abbrev pub most_columns : ℕ
most_columns = 17

-- what each column of a table takes, in order
abbrev pub kinds_of : Table → List Kind
kinds_of t = map (λ described. described.kind) (columns_of t)

-- what is said of a column, if its table has such a place
abbrev pub described : Column → Option Described
described column = find (λ row. nat_eq row.place column.place) (columns_of column.table)

-- the name of a column; empty where its table has no such place
abbrev pub column_name : Column → List ℕ
column_name column = unwrap_or (option_map (λ row. row.name) (described column)) []

-- what a column takes, if its table has such a place
abbrev pub column_kind : Column → Option Kind
column_kind column = option_map (λ row. row.kind) (described column)

-- the columns that queries test, group by, or take constants of
abbrev pub C_CITY : Column
C_CITY = record { table = table.Customer; place = 4 }

abbrev pub C_NATION : Column
C_NATION = record { table = table.Customer; place = 5 }

abbrev pub C_REGION : Column
C_REGION = record { table = table.Customer; place = 6 }

abbrev pub C_MKTSEGMENT : Column
C_MKTSEGMENT = record { table = table.Customer; place = 8 }

abbrev pub S_CITY : Column
S_CITY = record { table = table.Supplier; place = 4 }

abbrev pub S_NATION : Column
S_NATION = record { table = table.Supplier; place = 5 }

abbrev pub S_REGION : Column
S_REGION = record { table = table.Supplier; place = 6 }

abbrev pub P_MFGR : Column
P_MFGR = record { table = table.Part; place = 3 }

abbrev pub P_CATEGORY : Column
P_CATEGORY = record { table = table.Part; place = 4 }

abbrev pub P_BRAND1 : Column
P_BRAND1 = record { table = table.Part; place = 5 }

abbrev pub D_DATEKEY : Column
D_DATEKEY = record { table = table.Date; place = 1 }

abbrev pub D_DAYOFWEEK : Column
D_DAYOFWEEK = record { table = table.Date; place = 3 }

abbrev pub D_MONTH : Column
D_MONTH = record { table = table.Date; place = 4 }

abbrev pub D_YEAR : Column
D_YEAR = record { table = table.Date; place = 5 }

abbrev pub D_YEARMONTHNUM : Column
D_YEARMONTHNUM = record { table = table.Date; place = 6 }

abbrev pub D_YEARMONTH : Column
D_YEARMONTH = record { table = table.Date; place = 7 }

abbrev pub D_WEEKNUMINYEAR : Column
D_WEEKNUMINYEAR = record { table = table.Date; place = 12 }

abbrev pub D_SELLINGSEASON : Column
D_SELLINGSEASON = record { table = table.Date; place = 13 }

abbrev pub D_HOLIDAYFL : Column
D_HOLIDAYFL = record { table = table.Date; place = 16 }

abbrev pub query_columns : List Column
query_columns =
    C_CITY
    ∷ C_NATION
    ∷ C_REGION
    ∷ C_MKTSEGMENT
    ∷ S_CITY
    ∷ S_NATION
    ∷ S_REGION
    ∷ P_MFGR
    ∷ P_CATEGORY
    ∷ P_BRAND1
    ∷ D_DATEKEY
    ∷ D_DAYOFWEEK
    ∷ D_MONTH
    ∷ D_YEAR
    ∷ D_YEARMONTHNUM
    ∷ D_YEARMONTH
    ∷ D_WEEKNUMINYEAR
    ∷ D_SELLINGSEASON
    ∷ D_HOLIDAYFL ∷ []

-- their names, one by one
abbrev pub query_names : List (List ℕ)
query_names =
    codes "C_CITY"
    ∷ codes "C_NATION"
    ∷ codes "C_REGION"
    ∷ codes "C_MKTSEGMENT"
    ∷ codes "S_CITY"
    ∷ codes "S_NATION"
    ∷ codes "S_REGION"
    ∷ codes "P_MFGR"
    ∷ codes "P_CATEGORY"
    ∷ codes "P_BRAND1"
    ∷ codes "D_DATEKEY"
    ∷ codes "D_DAYOFWEEK"
    ∷ codes "D_MONTH"
    ∷ codes "D_YEAR"
    ∷ codes "D_YEARMONTHNUM"
    ∷ codes "D_YEARMONTH"
    ∷ codes "D_WEEKNUMINYEAR"
    ∷ codes "D_SELLINGSEASON"
    ∷ codes "D_HOLIDAYFL" ∷ []

-- a byte that may stand in a text: not the delimiter, CR or LF
abbrev pub is_plain_byte : ℕ → Bool
is_plain_byte b = not (b == 124) && not (b == 13) && not (b == 10)

-- whether a text ends in a space
abbrev pub ends_in_space : List ℕ → Bool
ends_in_space bytes = ends_with nat_eq bytes (32 ∷ [])

-- whether a table file can hold the text as it is
abbrev pub is_plain : List ℕ → Bool
is_plain bytes = list_all is_plain_byte bytes && not (ends_in_space bytes)

-- what is wrong with a value in a column
abbrev pub column_fault : Column → Kind → Value → Option SchemaFault
column_fault column (kind.Number least most) (Number n) = if nat_lt n least || nat_lt most n then Some
    (fault.OutOfRange column) else None
column_fault column kind.Text (Text t) =
    if nat_lt 64 (length t) then Some (fault.FieldTooLong column)
    else if not (is_plain t) then Some (fault.OutOfRange column)
    else None
column_fault column (kind.Number least most) (Text t) = None
column_fault column kind.Text (Number n) = None

-- the first of two answers that is there
abbrev pub or_else : Option SchemaFault → Option SchemaFault → Option SchemaFault
or_else (Some f) other = Some f
or_else None other = other

-- the first fault of these columns, which begin at a place
unfoldable pub first_fault : Table → ℕ → List Kind → List Value → Option SchemaFault
first_fault t place [] values = None
first_fault t place (k ∷ kinds) [] = None
first_fault t place (k ∷ kinds) (v ∷ values) = or_else (column_fault (record { table = t; place = place }) k v)
    (first_fault t (place + 1) kinds values)

-- the first fault of a row, in the order of its columns
abbrev pub row_fault : Table → List Value → Option SchemaFault
row_fault t values = first_fault t 1 (kinds_of t) values

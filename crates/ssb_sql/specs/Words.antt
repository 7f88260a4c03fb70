-- What words stand for.
use Rattle.std.specs.Prelude.{ℕ, Bool, false, ◌||◌, List, [], ◌∷◌, map, codes, find, Option, None, Some, option_map, unwrap_or}
use Rattle.std.specs.Prelude.{if◌then◌else◌}
use Rattle.std.specs.Borrow.{Bor}
use Rattle.std.specs.Char.{to_ascii_lowercase}
use Rattle.std.specs.List.{list_any}
use Rattle.std.specs.Option.{option_or}
use Rattle.ssb_schema.specs.Columns.{column_name, query_columns}
use Rattle.ssb_schema.specs.declared.column.Column.{Column}
use Rattle.ssb_schema.specs.declared.table.Table.{Table}
use Rattle.ssb_schema.specs.declared.table.Table.TheVariants as table
use Rattle.ssb_questions.specs.Text.{text_eq}
use Rattle.ssb_sql.specs.Texts.{anywhere}
use Rattle.ssb_sql.specs.declared.token.LineColumn.{LineColumn}
use Rattle.ssb_sql.specs.declared.token.LineColumn.TheVariants as line
use Rattle.ssb_sql.specs.declared.token.SqlToken.{SqlToken}
use Rattle.ssb_sql.specs.declared.token.SqlToken.TheVariants as k
use Rattle.ssb_sql.specs.declared.token.SqlWord.{SqlWord}
use Rattle.ssb_sql.specs.declared.token.SqlWord.TheVariants as w

-- whether two words are the same: the case of ASCII's letters does not count
abbrev pub same_word : List ℕ → List ℕ → Bool
same_word a b = text_eq (map to_ascii_lowercase a) (map to_ascii_lowercase b)

-- what has a name, of those that are listed
abbrev pub named : {X : Type 0} → List (List ℕ × X) → List ℕ → Option X
named [] name = None
named (entry ∷ entries) name = if same_word entry.0 name then Some entry.1 else named entries name

abbrev pub entry_now : {X : Type 0} → Bor (List ℕ) × X → List ℕ × X
entry_now entry = (entry.0.now, entry.1)

-- the words of the language
abbrev pub words : List (List ℕ × SqlWord)
words =
    (codes "SELECT", w.Select)
    ∷ (codes "SUM", w.Sum)
    ∷ (codes "AVG", w.Average)
    ∷ (codes "COUNT", w.Count)
    ∷ (codes "NULLIF", w.NullIf)
    ∷ (codes "AS", w.As)
    ∷ (codes "FROM", w.From)
    ∷ (codes "JOIN", w.Join)
    ∷ (codes "INNER", w.Inner)
    ∷ (codes "ON", w.On)
    ∷ (codes "WHERE", w.Where)
    ∷ (codes "AND", w.And)
    ∷ (codes "OR", w.Or)
    ∷ (codes "NOT", w.Not)
    ∷ (codes "IN", w.In)
    ∷ (codes "BETWEEN", w.Between)
    ∷ (codes "GROUP", w.Group)
    ∷ (codes "HAVING", w.Having)
    ∷ (codes "ORDER", w.Order)
    ∷ (codes "BY", w.By)
    ∷ (codes "ASC", w.Asc)
    ∷ (codes "DESC", w.Desc)
    ∷ (codes "LIMIT", w.Limit) ∷ []

abbrev pub tables : List (List ℕ × Table)
tables =
    (codes "LINEORDER", table.Lineorder)
    ∷ (codes "CUSTOMER", table.Customer)
    ∷ (codes "SUPPLIER", table.Supplier)
    ∷ (codes "PART", table.Part)
    ∷ (codes "DATE", table.Date)
    ∷ (codes "DWDATE", table.Date) ∷ []

-- the keys of dimensions that questions do not read, and the columns of lines that have the keys of all
abbrev pub keys : List (List ℕ × Table)
keys =
    (codes "C_CUSTKEY", table.Customer)
    ∷ (codes "S_SUPPKEY", table.Supplier)
    ∷ (codes "P_PARTKEY", table.Part) ∷ []

abbrev pub line_keys : List (List ℕ × Table)
line_keys =
    (codes "LO_CUSTKEY", table.Customer)
    ∷ (codes "LO_SUPPKEY", table.Supplier)
    ∷ (codes "LO_PARTKEY", table.Part)
    ∷ (codes "LO_ORDERDATE", table.Date) ∷ []

-- the numbers of a line that questions read
abbrev pub line_columns : List (List ℕ × LineColumn)
line_columns =
    (codes "LO_QUANTITY", line.Quantity)
    ∷ (codes "LO_EXTENDEDPRICE", line.ExtendedPrice)
    ∷ (codes "LO_DISCOUNT", line.Discount)
    ∷ (codes "LO_REVENUE", line.Revenue)
    ∷ (codes "LO_SUPPLYCOST", line.SupplyCost) ∷ []

-- words of SQL that a statement here does not have
abbrev pub foreign : List (List ℕ)
foreign =
    codes "ALL"
    ∷ codes "ANY"
    ∷ codes "CASE"
    ∷ codes "CAST"
    ∷ codes "COALESCE"
    ∷ codes "CREATE"
    ∷ codes "CROSS"
    ∷ codes "DELETE"
    ∷ codes "DISTINCT"
    ∷ codes "DROP"
    ∷ codes "ELSE"
    ∷ codes "END"
    ∷ codes "ESCAPE"
    ∷ codes "EXCEPT"
    ∷ codes "EXISTS"
    ∷ codes "EXPLAIN"
    ∷ codes "FALSE"
    ∷ codes "FETCH"
    ∷ codes "FULL"
    ∷ codes "GLOB"
    ∷ codes "INSERT"
    ∷ codes "INTERSECT"
    ∷ codes "INTO"
    ∷ codes "IS"
    ∷ codes "LEFT"
    ∷ codes "LIKE"
    ∷ codes "MAX"
    ∷ codes "MIN"
    ∷ codes "NATURAL"
    ∷ codes "NULL"
    ∷ codes "OFFSET"
    ∷ codes "OUTER"
    ∷ codes "OVER"
    ∷ codes "RIGHT"
    ∷ codes "SET"
    ∷ codes "THEN"
    ∷ codes "TRUE"
    ∷ codes "UNION"
    ∷ codes "UPDATE"
    ∷ codes "USING"
    ∷ codes "WHEN"
    ∷ codes "WITH" ∷ []

abbrev pub is_listed : List (List ℕ) → List ℕ → Bool
is_listed [] name = false
is_listed (word ∷ words) name = same_word word name || is_listed words name

-- the column of a dimension that has the name, of those that questions read
abbrev pub column_named : List ℕ → Option Column
column_named name = find (λ column. same_word (column_name column) name) query_columns

-- the places that columns of a table can have
abbrev pub places : List ℕ
places = 1 ∷ 2 ∷ 3 ∷ 4 ∷ 5 ∷ 6 ∷ 7 ∷ 8 ∷ 9 ∷ 10 ∷ 11 ∷ 12 ∷ 13 ∷ 14 ∷ 15 ∷ 16 ∷ 17 ∷ []

-- whether a table has a column of the name, read or not
abbrev pub has_column : Table → List ℕ → Bool
has_column own name = list_any (λ place. same_word (column_name (record { table = own; place = place })) name) places

-- the table that has a column of the name
abbrev pub table_with : List ℕ → Option Table
table_with name =
    find (λ own. has_column own name)
    (table.Lineorder ∷ table.Customer ∷ table.Supplier ∷ table.Part ∷ table.Date ∷ [])

-- what a column's name stands for
abbrev pub column_token : List ℕ → Option SqlToken
column_token name =
    option_or (option_map k.Column (column_named name))
    (option_or (option_map k.Line (named line_columns name))
    (option_or (option_map k.Key (named keys name))
    (option_or (option_map k.LineKey (named line_keys name))
    (option_map (λ own. k.Foreign) (table_with name)))))

-- what a word stands for
abbrev pub token_of : List ℕ → SqlToken
token_of word =
    unwrap_or
    (option_or (option_map k.Word (named words word))
    (option_or (option_map k.Table (named tables word)) (column_token word)))
    (if is_listed foreign word then k.Foreign else k.Name (anywhere word))

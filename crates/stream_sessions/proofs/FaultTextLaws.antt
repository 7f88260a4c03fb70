-- The texts of faults are UTF-8.
use Rattle.std.proofs.Common.{◌≡◌, ℕ, Bool, true, false, ◌&&◌, List, [], ◌∷◌, ◌++◌, codes, decimal, Option, Some, None, refl}
use Rattle.std.proofs.Common.{nat_lt, nat_eq, IsUtf8, cond}
use Rattle.std.specs.List.{concat, find}
use Rattle.std.specs.Option.{option_map, unwrap_or}
use Rattle.std.specs.Cmp.{first_so, second_so}
use Rattle.std.proofs.lemmas.Bool.{ltb-true}
use Rattle.std.proofs.lemmas.Str.{IsUtf8-append, IsUtf8-from_ascii, IsUtf8-nil}
use Rattle.std.proofs.lemmas.Str.Ascii.{IsAscii-cons, IsAscii-nil}
use Rattle.ssb_formats.proofs.TextLaws.{number_is_text}
use Rattle.ssb_schema.specs.Columns.{Described, column_name, columns_of, table_name}
use Rattle.ssb_schema.specs.declared.column.Column.{Column}
use Rattle.ssb_schema.specs.declared.fault.SchemaFault.{SchemaFault}
use Rattle.ssb_schema.specs.declared.fault.SchemaFault.TheVariants as schema
use Rattle.ssb_schema.specs.declared.table.Table.{Table}
use Rattle.ssb_schema.specs.declared.table.Table.TheVariants as table
use Rattle.ssb_script.specs.declared.error.ScriptError.{ScriptError}
use Rattle.ssb_script.specs.declared.error.ScriptError.TheVariants as script
use Rattle.ssb_sql.specs.FaultNames.{name_of, place_of}
use Rattle.ssb_sql.specs.declared.fault.SqlFault.{SqlFault}
use Rattle.ssb_sql.specs.declared.fault.SqlFault.TheVariants as sql
use Rattle.ssb_sql.specs.declared.fault.TextPlace.{TextPlace}
use Rattle.stream_sessions.specs.FaultLine.{fault_text, placed_text, schema_text, sql_text}

-- whether bytes are ASCII
abbrev are_ascii : List ℕ → Bool
are_ascii [] = true
are_ascii (b ∷ bytes) = nat_lt b 128 && are_ascii bytes

ascii_is_text : (bytes : List ℕ) → are_ascii bytes ≡ true → IsUtf8 bytes
ascii_is_text [] ascii = IsUtf8-nil
ascii_is_text (b ∷ bytes) ascii =
    IsUtf8-append (b ∷ []) bytes
    (IsUtf8-from_ascii (b ∷ []) (IsAscii-cons b [] (ltb-true b 128 (first_so (nat_lt b 128) (are_ascii bytes) ascii))
    IsAscii-nil))
    (ascii_is_text bytes (second_so (nat_lt b 128) (are_ascii bytes) ascii))

-- the names of the columns
abbrev have_ascii : List Described → Bool
have_ascii [] = true
have_ascii (row ∷ rows) = are_ascii row.name && have_ascii rows

columns_ascii : (t : Table) → have_ascii (columns_of t) ≡ true
columns_ascii table.Customer = refl
columns_ascii table.Supplier = refl
columns_ascii table.Part = refl
columns_ascii table.Date = refl
columns_ascii table.Lineorder = refl

abbrev name_in : Option Described → List ℕ
name_in found = unwrap_or (option_map (λ (row : Described). row.name) found) []

chosen_is_text : (test : Bool) (row : Described) (other : Option Described) → IsUtf8 row.name → IsUtf8 (name_in other)
    → IsUtf8 (name_in (cond test (Some row) other))
chosen_is_text true row other this that = this
chosen_is_text false row other this that = that

found_is_text : (rows : List Described) (place : ℕ) → have_ascii rows ≡ true
    → IsUtf8 (name_in (find (λ (row : Described). nat_eq row.place place) rows))
found_is_text [] place ascii = IsUtf8-nil
found_is_text (row ∷ rows) place ascii =
    chosen_is_text (nat_eq row.place place) row (find (λ (other : Described). nat_eq other.place place) rows)
    (ascii_is_text row.name (first_so (are_ascii row.name) (have_ascii rows) ascii))
    (found_is_text rows place (second_so (are_ascii row.name) (have_ascii rows) ascii))

column_is_text : (column : Column) → IsUtf8 (column_name column)
column_is_text column = found_is_text (columns_of column.table) column.place (columns_ascii column.table)

table_is_text : (t : Table) → IsUtf8 (table_name t)
table_is_text table.Customer = ascii_is_text (codes "customer") refl
table_is_text table.Supplier = ascii_is_text (codes "supplier") refl
table_is_text table.Part = ascii_is_text (codes "part") refl
table_is_text table.Date = ascii_is_text (codes "date") refl
table_is_text table.Lineorder = ascii_is_text (codes "lineorder") refl

-- a name, and a text behind it
behind : (name rest : List ℕ) → are_ascii name ≡ true → IsUtf8 rest → IsUtf8 (name ++ rest)
behind name rest ascii text = IsUtf8-append name rest (ascii_is_text name ascii) text

last_number : (n : ℕ) → IsUtf8 (decimal n ++ [])
last_number n = IsUtf8-append (decimal n) [] (number_is_text n) IsUtf8-nil

last_column : (column : Column) → IsUtf8 (column_name column ++ [])
last_column column = IsUtf8-append (column_name column) [] (column_is_text column) IsUtf8-nil

last_table : (t : Table) → IsUtf8 (table_name t ++ [])
last_table t = IsUtf8-append (table_name t) [] (table_is_text t) IsUtf8-nil

schema_is_text : (fault : SchemaFault) → IsUtf8 (schema_text fault)
schema_is_text schema.NoLines = ascii_is_text (codes "1 NoLines") refl
schema_is_text schema.TooManyLines = ascii_is_text (codes "2 TooManyLines") refl
schema_is_text schema.KeysDiffer = ascii_is_text (codes "3 KeysDiffer") refl
schema_is_text (schema.LineRepeated number) =
    behind (codes "4 LineRepeated ") (decimal number ++ []) refl (last_number number)
schema_is_text schema.NoActions = ascii_is_text (codes "5 NoActions") refl
schema_is_text schema.TooManyActions = ascii_is_text (codes "6 TooManyActions") refl
schema_is_text (schema.KeyRepeated t row) =
    behind (codes "7 KeyRepeated ") (table_name t ++ (codes " " ++ (decimal row ++ []))) refl
    (IsUtf8-append (table_name t) (codes " " ++ (decimal row ++ [])) (table_is_text t)
    (behind (codes " ") (decimal row ++ []) refl (last_number row)))
schema_is_text (schema.UnknownKey line t) =
    behind (codes "8 UnknownKey ") (decimal line ++ (codes " " ++ (table_name t ++ []))) refl
    (IsUtf8-append (decimal line) (codes " " ++ (table_name t ++ [])) (number_is_text line)
    (behind (codes " ") (table_name t ++ []) refl (last_table t)))
schema_is_text (schema.TooManyRows t) = behind (codes "9 TooManyRows ") (table_name t ++ []) refl (last_table t)
schema_is_text (schema.OutOfRange column) =
    behind (codes "10 OutOfRange ") (column_name column ++ []) refl (last_column column)
schema_is_text (schema.FieldTooLong column) =
    behind (codes "11 FieldTooLong ") (column_name column ++ []) refl (last_column column)

placed_is_text : (name : List ℕ) (place : Option TextPlace) → are_ascii name ≡ true → IsUtf8 (placed_text name place)
placed_is_text name None ascii = ascii_is_text name ascii
placed_is_text name (Some place) ascii =
    behind name (codes " " ++ (decimal place.line ++ (codes " " ++ (decimal place.column ++ [])))) ascii
    (behind (codes " ") (decimal place.line ++ (codes " " ++ (decimal place.column ++ []))) refl
    (IsUtf8-append (decimal place.line) (codes " " ++ (decimal place.column ++ [])) (number_is_text place.line)
    (behind (codes " ") (decimal place.column ++ []) refl (last_number place.column))))

name_is_ascii : (fault : SqlFault) → are_ascii (name_of fault) ≡ true
name_is_ascii (sql.BadToken place) = refl
name_is_ascii (sql.Unexpected place) = refl
name_is_ascii (sql.NotSupported place) = refl
name_is_ascii (sql.UnknownName place) = refl
name_is_ascii (sql.NotJoined place) = refl
name_is_ascii (sql.NotAGroup place) = refl
name_is_ascii (sql.BadValue place) = refl
name_is_ascii (sql.TooMany place) = refl
name_is_ascii (sql.SameHead place) = refl
name_is_ascii sql.OutOfMemory = refl

sql_is_text : (fault : SqlFault) → IsUtf8 (sql_text fault)
sql_is_text fault = placed_is_text (name_of fault) (place_of fault) (name_is_ascii fault)

pub fault_is_text : (fault : ScriptError) → IsUtf8 (fault_text fault)
fault_is_text (script.BadLine number) = behind (codes "70 BadLine ") (decimal number ++ []) refl (last_number number)
fault_is_text script.NoCommit = ascii_is_text (codes "71 NoCommit") refl
fault_is_text (script.EmptyBlock number) =
    behind (codes "72 EmptyBlock ") (decimal number ++ []) refl (last_number number)
fault_is_text (script.Row number why) =
    IsUtf8-append (concat (codes "73 Row " ∷ decimal number ∷ codes " " ∷ [])) (schema_text why)
    (behind (codes "73 Row ") (decimal number ++ (codes " " ++ [])) refl
    (IsUtf8-append (decimal number) (codes " " ++ []) (number_is_text number) (ascii_is_text (codes " " ++ []) refl)))
    (schema_is_text why)
fault_is_text (script.Sql number why) =
    IsUtf8-append (concat (codes "79 Sql " ∷ decimal number ∷ codes " " ∷ [])) (sql_text why)
    (behind (codes "79 Sql ") (decimal number ++ (codes " " ++ [])) refl
    (IsUtf8-append (decimal number) (codes " " ++ []) (number_is_text number) (ascii_is_text (codes " " ++ []) refl)))
    (sql_is_text why)
fault_is_text script.TooLong = ascii_is_text (codes "74 TooLong") refl
fault_is_text script.Read = ascii_is_text (codes "75 Read") refl
fault_is_text script.NoAnswer = ascii_is_text (codes "77 NoAnswer") refl
fault_is_text (script.TooManyQuestions number) =
    behind (codes "78 TooManyQuestions ") (decimal number ++ []) refl (last_number number)
fault_is_text script.OutOfMemory = ascii_is_text (codes "out of memory") refl

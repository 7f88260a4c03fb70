-- Signed lines as text, in each format.
use Rattle.std.specs.Prelude.{ℕ, negsuc, List, [], ◌∷◌, ◌++◌, map, flat_map, codes, decimal}
use Rattle.std.specs.List.{zip}
use Rattle.csv.specs.Writing.{default_writer}
use Rattle.csv.specs.Writing.{row_text as csv_record}
use Rattle.serde_json.specs.Data.{Data, Members, Num, member, negative, no_members, number, object, string, unsigned}
use Rattle.serde_json.specs.Written.{compact_text}
use Rattle.ssb_schema.specs.Columns.{Number, Text, Value, columns_of}
use Rattle.ssb_schema.specs.Rows.{line_values}
use Rattle.ssb_schema.specs.declared.line.LineFields.{LineFields}
use Rattle.ssb_schema.specs.declared.table.Table.TheVariants as table
use Rattle.ssb_text.specs.Numbers.{line_feed}
use Rattle.ssb_text.specs.TableText.{column_text, row_text}
use Rattle.changes_command.specs.Signed.{SignedLine}
use Rattle.changes_command.specs.declared.format.ChangesFormat.{ChangesFormat}
use Rattle.changes_command.specs.declared.format.ChangesFormat.TheVariants.{Report, Csv, Json}
use Rattle.changes_command.specs.declared.signed.Sign.{Sign}
use Rattle.changes_command.specs.declared.signed.Sign.TheVariants.{Came, Went}

-- the names of the fields of a signed line
abbrev pub line_names : List (List ℕ)
line_names = map (λ column. column.name) (columns_of table.Lineorder)

abbrev pub heads : List (List ℕ)
heads = codes "COMMIT" ∷ codes "SIGN" ∷ line_names

-- 1: the line came; -1: it went
abbrev pub sign_text : Sign → List ℕ
sign_text Came = codes "1"
sign_text Went = codes "-1"

abbrev pub sign_number : Sign → Num
sign_number Came = unsigned 1
sign_number Went = negative (negsuc 0)

-- the fields as texts
abbrev pub fields_of : ℕ → Sign → LineFields → List (List ℕ)
fields_of commit sign line = decimal commit ∷ sign_text sign ∷ map column_text (line_values line)

-- and as JSON has them: a number as a number, whatever its size
abbrev pub value_data : Value → Data
value_data (Number n) = number (unsigned n)
value_data (Text bytes) = string bytes

abbrev pub data_of : ℕ → Sign → LineFields → List Data
data_of commit sign line =
    number (unsigned commit) ∷ number (sign_number sign) ∷ map value_data (line_values line)

-- the members of an object, in this order
abbrev pub members_of : List (List ℕ × Data) → Members
members_of [] = no_members
members_of (named ∷ others) = member named.0 named.1 (members_of others)

abbrev pub barred : List ℕ → List ℕ
barred text = 124 ∷ (text ++ 124 ∷ [])

-- a line with a commit and a sign: its fields between bars; as a record of CSV, quoted as the kit's writer does by
-- itself; as a JSON object without blanks
abbrev pub signed_text : ChangesFormat → ℕ → Sign → LineFields → List ℕ
signed_text Report commit sign line = decimal commit ++ (barred (sign_text sign) ++ row_text (line_values line))
signed_text Csv commit sign line = csv_record default_writer (fields_of commit sign line)
signed_text Json commit sign line =
    compact_text (object (members_of (zip heads (data_of commit sign line)))) ++ line_feed

-- what stands above the lines
abbrev pub heads_text : ChangesFormat → List ℕ
heads_text Report = []
heads_text Csv = csv_record default_writer heads
heads_text Json = []

-- signed lines, one after another
abbrev pub lines_text : ChangesFormat → List SignedLine → List ℕ
lines_text format lines = flat_map (λ (l : SignedLine). signed_text format l.commit l.sign l.line) lines

-- and the heads above them
abbrev pub changes_text : ChangesFormat → List SignedLine → List ℕ
changes_text format lines = heads_text format ++ lines_text format lines

-- What one record of a script spells.
use Rattle.std.specs.Prelude.{ℕ, ◌+◌, ◌++◌, Bool, true, false, List, [], ◌∷◌, length, get_or, drop, find, codes}
use Rattle.std.specs.Prelude.{flat_map, Option}
use Rattle.std.specs.Prelude.{Some, None, is_none, option_map, Result, Ok, Err, nat_eq, nat_lt, if◌then◌else◌}
use Rattle.std.specs.Option.{option_and_then}
use Rattle.std.specs.Cmp.Lexicographic.{pointwise}
use Rattle.ssb_schema.specs.Columns as columns
use Rattle.ssb_schema.specs.Texts.{texts_of}
use Rattle.ssb_schema.specs.declared.table.Table.TheVariants as table
use Rattle.ssb_schema.specs.declared.line.LineFields.{LineFields}
use Rattle.ssb_text.specs.Records.{has_columns}
use Rattle.ssb_text.specs.Row.{row_of}
use Rattle.ssb_schema.specs.Numerals.{number_of}
use Rattle.ssb_text.specs.Spelling.{field, text_of, without_spaces}
use Rattle.ssb_text.specs.declared.error.LineFault.{LineFault}
use Rattle.ssb_text.specs.declared.error.LineFault.TheVariants as row
use Rattle.ssb_questions.specs.Kind.{constant_kinds}
use Rattle.ssb_questions.specs.Queries.{standard_constants}
use Rattle.ssb_questions.specs.Query.{name_of}
use Rattle.ssb_questions.specs.Question.{constants_fault}
use Rattle.ssb_questions.specs.declared.kind.ConstantKind.{ConstantKind}
use Rattle.ssb_questions.specs.declared.kind.ConstantKind.TheVariants as kind
use Rattle.ssb_questions.specs.declared.query.Query.{Query as Named}
use Rattle.ssb_questions.specs.AllQueries.{queries_and_star}
use Rattle.ssb_questions.specs.declared.value.Value.{Value}
use Rattle.ssb_questions.specs.declared.value.Value.TheVariants as value
use Rattle.ssb_schema.specs.declared.fault.SchemaFault.{SchemaFault}
use Rattle.ssb_script.specs.declared.control.OrderOpening.{OrderOpening}
use Rattle.ssb_script.specs.declared.control.OrderOpening.TheVariants.{Add, Amend, Put}
use Rattle.ssb_script.specs.declared.word.ScriptWord.{ScriptWord}
use Rattle.ssb_script.specs.declared.word.ScriptWord.TheVariants as word

-- what a record may say
pub data ScriptLine : Type 0 where
  Query : Named × List Value → ScriptLine
  -- the text of a statement
  Sql : List ℕ → ScriptLine
  Begin : ScriptLine
  Open : OrderOpening → ScriptLine
  Line : LineFields → ScriptLine
  Withdraw : ℕ → ScriptLine
  Commit : ScriptLine
  Ask : ScriptLine
  Answer : ScriptLine
  Order : ℕ → ScriptLine
  Abort : ScriptLine

-- why a record says nothing: it is none of a script's, or the schema refuses its line
pub data RecordFault : Type 0 where
  Bad : RecordFault
  Refused : SchemaFault → RecordFault

-- the words that a record may begin with
abbrev pub spelling_of : ScriptWord → List ℕ
spelling_of word.Query = codes "query"
spelling_of word.Sql = codes "sql"
spelling_of word.Begin = codes "begin"
spelling_of word.Add = codes "add"
spelling_of word.Amend = codes "amend"
spelling_of word.Put = codes "put"
spelling_of word.Line = codes "line"
spelling_of word.Withdraw = codes "withdraw"
spelling_of word.Commit = codes "commit"
spelling_of word.Ask = codes "ask"
spelling_of word.Answer = codes "answer"
spelling_of word.Order = codes "order"
spelling_of word.Abort = codes "abort"

abbrev pub words : List ScriptWord
words = word.Query ∷ word.Sql ∷ word.Begin ∷ word.Add ∷ word.Amend ∷ word.Put ∷ word.Line ∷ word.Withdraw ∷
    word.Commit ∷ word.Ask ∷ word.Answer ∷ word.Order ∷ word.Abort ∷ []

-- the word that bytes spell, letter for letter
abbrev pub word_spelled : List ℕ → Option ScriptWord
word_spelled bytes = find (λ word. pointwise nat_eq (spelling_of word) bytes) words

-- the word of a record, if its first field is one
unfoldable pub word_of : List (List ℕ) → Option ScriptWord
word_of fields = word_spelled (field fields 0)

-- the query that bytes name
abbrev pub query_named : List ℕ → Option Named
query_named name = find (λ query. pointwise nat_eq (name_of query) name) queries_and_star

-- the constant of a kind that bytes spell: a text, or a number of 64 bits
abbrev pub constant_spelled : ConstantKind → List ℕ → Option Value
constant_spelled (kind.Text column) bytes = option_map value.Text (text_of bytes)
constant_spelled kind.Number bytes = option_map value.Number (number_of bytes)

-- the constants of these kinds that the fields from a place on spell, where each spells one
unfoldable pub constants_from : ℕ → List ConstantKind → List (List ℕ) → Option (List Value)
constants_from place [] fields = Some []
constants_from place (kind ∷ kinds) fields =
    option_and_then (λ constant. option_map (λ rest. constant ∷ rest) (constants_from (place + 1) kinds fields))
    (constant_spelled kind (field fields place))

-- fields without a last one of no bytes
unfoldable pub without_closing : List (List ℕ) → List (List ℕ)
without_closing [] = []
without_closing (last ∷ []) = if nat_eq (length last) 0 then [] else last ∷ []
without_closing (bytes ∷ next ∷ fields) = bytes ∷ without_closing (next ∷ fields)

-- the texts that fields spell one by one, where each spells one
unfoldable pub texts_spelled : List (List ℕ) → Option (List Value)
texts_spelled [] = Some []
texts_spelled (bytes ∷ fields) =
    option_and_then (λ text. option_map (λ rest. value.Text text ∷ rest) (texts_spelled fields))
    (text_of (without_spaces bytes))

-- the constants that fields give behind so many of them: those that a query has where none are given, or one in each
-- field from there on; of `star`, which has no kinds, a text in each
abbrev pub constants_given : ℕ → Named → Option (List ConstantKind) → List (List ℕ) → Option (List Value)
constants_given place query (Some kinds) fields =
    if has_columns place fields then Some (standard_constants query)
    else if has_columns (place + length kinds) fields then constants_from place kinds fields
    else None
constants_given place query None fields = texts_spelled (without_closing (drop place fields))

-- constants that a query takes
abbrev pub taken_by : Named → List Value → Option (List Value)
taken_by query constants = if is_none (constants_fault query constants) then Some constants else None

-- the constants of a query behind so many fields, which it has to take
unfoldable pub constants_at : ℕ → Named → List (List ℕ) → Option (List Value)
constants_at place query fields =
    option_and_then (taken_by query) (constants_given place query (constant_kinds query) fields)

-- the query that a record names at one place, with its constants from another on
abbrev pub question_at : ℕ → ℕ → List (List ℕ) → Option (Named × List Value)
question_at name place fields = option_and_then (λ query. option_map (λ constants. (query, constants))
    (constants_at place query fields)) (query_named (field fields name))

-- the question that a `query` record asks
abbrev pub question_of : List (List ℕ) → Option (Named × List Value)
question_of fields = question_at 1 2 fields

-- fields with a bar between one and the next
abbrev pub behind_bar : List ℕ → List ℕ
behind_bar bytes = 124 ∷ bytes

abbrev pub barred : List (List ℕ) → List ℕ
barred [] = []
barred (first ∷ others) = first ++ flat_map behind_bar others

-- the text behind a record's word: the fields there with the bars between them, without a closing one
abbrev pub text_behind : List (List ℕ) → List ℕ
text_behind fields = barred (without_closing (drop 1 fields))

-- the text of the statement that a `sql` record asks: its word has a bar behind it, and the text is UTF-8
abbrev pub sql_of : List (List ℕ) → Option (List ℕ)
sql_of fields = if nat_lt 1 (length fields) then text_of (text_behind fields) else None

-- the number, or the text, that stands in a place of a row's values
abbrev pub number_value : columns.Value → ℕ
number_value (columns.Number n) = n
number_value (columns.Text bytes) = 0

abbrev pub text_value : columns.Value → List ℕ
text_value (columns.Number n) = []
text_value (columns.Text bytes) = bytes

abbrev pub number_in : List columns.Value → ℕ → ℕ
number_in values place = number_value (get_or values place (columns.Number 0))

abbrev pub text_in : List columns.Value → ℕ → List ℕ
text_in values place = text_value (get_or values place (columns.Text []))

-- the line of an order that has these values in the columns of lineorder
abbrev pub line_with : List columns.Value → LineFields
line_with values = record {
  order_key = number_in values 0;
  line_number = number_in values 1;
  customer_key = number_in values 2;
  part_key = number_in values 3;
  supplier_key = number_in values 4;
  order_date = number_in values 5;
  quantity = number_in values 8;
  extended_price = number_in values 9;
  order_total_price = number_in values 10;
  discount = number_in values 11;
  revenue = number_in values 12;
  supply_cost = number_in values 13;
  tax = number_in values 14;
  commit_date = number_in values 15;
  texts = texts_of (text_in values 6) (text_in values 7) (text_in values 16);
}

-- the line of an order whose columns are these fields; a schema's refusal is told, any other fault is a bad record
abbrev pub line_or_refusal : Result (List columns.Value) LineFault → Result ScriptLine RecordFault
line_or_refusal (Ok values) = Ok (Line (line_with values))
line_or_refusal (Err (row.Refused why)) = Err (Refused why)
line_or_refusal (Err row.FieldCount) = Err Bad
line_or_refusal (Err (row.NotUtf8 column)) = Err Bad
line_or_refusal (Err (row.NotANumber column)) = Err Bad
line_or_refusal (Err row.OutOfMemory) = Err Bad

-- a record that spells this, if it spells anything
abbrev pub line_or_bad : Option ScriptLine → Result ScriptLine RecordFault
line_or_bad (Some spelled) = Ok spelled
line_or_bad None = Err Bad

-- a record that has no more than its word
abbrev pub alone : ScriptLine → List (List ℕ) → Option ScriptLine
alone spelled fields = if has_columns 1 fields then Some spelled else None

-- the key that a record gives
abbrev pub key_of : List (List ℕ) → Option ℕ
key_of fields = if has_columns 2 fields then number_of (field fields 1) else None

-- what a record of this word spells in its fields
abbrev pub line_after : Option ScriptWord → List (List ℕ) → Result ScriptLine RecordFault
line_after None fields = Err Bad
line_after (Some word.Query) fields = line_or_bad (option_map Query (question_of fields))
line_after (Some word.Sql) fields = line_or_bad (option_map Sql (sql_of fields))
line_after (Some word.Begin) fields = line_or_bad (alone Begin fields)
line_after (Some word.Add) fields = line_or_bad (alone (Open Add) fields)
line_after (Some word.Amend) fields = line_or_bad (alone (Open Amend) fields)
line_after (Some word.Put) fields = line_or_bad (alone (Open Put) fields)
line_after (Some word.Line) fields = line_or_refusal (row_of table.Lineorder (drop 1 fields))
line_after (Some word.Withdraw) fields = line_or_bad (option_map Withdraw (key_of fields))
line_after (Some word.Commit) fields = line_or_bad (alone Commit fields)
line_after (Some word.Ask) fields = line_or_bad (alone Ask fields)
line_after (Some word.Answer) fields = line_or_bad (alone Answer fields)
line_after (Some word.Order) fields = line_or_bad (option_map Order (key_of fields))
line_after (Some word.Abort) fields = line_or_bad (alone Abort fields)

-- whether a record is a `line`, which goes by its word alone
abbrev pub is_line : Option ScriptWord → Bool
is_line (Some word.Line) = true
is_line _ = false

-- whether a record is a `query`, by its word
abbrev pub is_query : Option ScriptWord → Bool
is_query (Some word.Query) = true
is_query _ = false

-- whether a record is a `sql`, by its word
abbrev pub is_sql : Option ScriptWord → Bool
is_sql (Some word.Sql) = true
is_sql _ = false

-- whether a record is an `abort`, which goes by its word alone too
abbrev pub is_abort : Option ScriptWord → Bool
is_abort (Some word.Abort) = true
is_abort _ = false

-- what a record spells
unfoldable pub line_of : List (List ℕ) → Result ScriptLine RecordFault
line_of fields = line_after (word_of fields) fields

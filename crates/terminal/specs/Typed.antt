-- What a line says that a person types at a terminal.
use Rattle.std.specs.Prelude.{ℕ, ◌-◌, Bool, not, List, [], ◌∷◌, ◌++◌, length, map, take, drop, find, codes, Option}
use Rattle.std.specs.Prelude.{Some, None, option_map, ◌==◌, ◌&&◌, ◌||◌, if◌then◌else◌}
use Rattle.std.specs.Io.BufRead.{strip_last}
use Rattle.std.specs.Char.{is_ascii_whitespace}
use Rattle.std.specs.List.{filter, flat_map, list_any, prefix_len, slice_split, suffix_len}
use Rattle.std.specs.Str.{str_eq_ignore_ascii_case}
use Rattle.ssb_questions.specs.AllQueries.{queries_and_star}
use Rattle.ssb_questions.specs.Query.{name_of}
use Rattle.ssb_questions.specs.declared.query.Query.{Query}
use Rattle.terminal.specs.declared.question.TypedQuestion.{TypedQuestion}
use Rattle.terminal.specs.declared.record_word.RecordWord.{RecordWord}
use Rattle.terminal.specs.declared.record_word.RecordWord.TheVariants as record_word
use Rattle.terminal.specs.declared.word.Spelling.{Spelling}
use Rattle.terminal.specs.declared.word.Spelling.TheVariants as spelled
use Rattle.terminal.specs.declared.word.TerminalWord.{TerminalWord}
use Rattle.terminal.specs.declared.word.TerminalWord.TheVariants as word

-- the same letters, in any case
abbrev pub are_alike : List ℕ → List ℕ → Bool
are_alike one other = str_eq_ignore_ascii_case one other

-- bytes from the first that is no blank on
abbrev pub begun_at_word : List ℕ → List ℕ
begun_at_word bytes = drop (prefix_len is_ascii_whitespace bytes) bytes

-- bytes up to the last that is no blank
abbrev pub ended_at_word : List ℕ → List ℕ
ended_at_word bytes = take (length bytes - suffix_len is_ascii_whitespace bytes) bytes

-- bytes without the blanks around them
abbrev pub trimmed : List ℕ → List ℕ
trimmed bytes = ended_at_word (begun_at_word bytes)

-- the spellings of the terminal's words
abbrev pub spelling_of : Spelling → List ℕ
spelling_of spelled.Help = codes "help"
spelling_of spelled.QuestionMark = codes "?"
spelling_of spelled.PointHelp = codes ".help"
spelling_of spelled.StrokeMark = codes "\\?"
spelling_of spelled.StrokeHelp = codes "\\h"
spelling_of spelled.HelpStar = codes "help star"
spelling_of spelled.HelpBegin = codes "help begin"
spelling_of spelled.Schema = codes "schema"
spelling_of spelled.PointSchema = codes ".schema"
spelling_of spelled.PointTables = codes ".tables"
spelling_of spelled.StrokeTables = codes "\\dt"
spelling_of spelled.StrokeTable = codes "\\d"
spelling_of spelled.Timing = codes "timing"
spelling_of spelled.StrokeTiming = codes "\\timing"
spelling_of spelled.Status = codes "status"
spelling_of spelled.Quit = codes "quit"
spelling_of spelled.StrokeQuit = codes "\\q"
spelling_of spelled.PointQuit = codes ".quit"
spelling_of spelled.Exit = codes "exit"
spelling_of spelled.PointExit = codes ".exit"

-- the word that is spelled so
abbrev pub said_by : Spelling → TerminalWord
said_by spelled.Help = word.Help
said_by spelled.QuestionMark = word.Help
said_by spelled.PointHelp = word.Help
said_by spelled.StrokeMark = word.Help
said_by spelled.StrokeHelp = word.Help
said_by spelled.HelpStar = word.HelpStar
said_by spelled.HelpBegin = word.HelpBegin
said_by spelled.Schema = word.Schema
said_by spelled.PointSchema = word.Schema
said_by spelled.PointTables = word.Schema
said_by spelled.StrokeTables = word.Schema
said_by spelled.StrokeTable = word.Schema
said_by spelled.Timing = word.Timing
said_by spelled.StrokeTiming = word.Timing
said_by spelled.Status = word.Status
said_by spelled.Quit = word.Quit
said_by spelled.StrokeQuit = word.Quit
said_by spelled.PointQuit = word.Quit
said_by spelled.Exit = word.Quit
said_by spelled.PointExit = word.Quit

abbrev pub spellings : List Spelling
spellings = spelled.Help ∷ spelled.QuestionMark ∷ spelled.PointHelp ∷ spelled.StrokeMark ∷ spelled.StrokeHelp
    ∷ spelled.HelpStar ∷ spelled.HelpBegin ∷ spelled.Schema ∷ spelled.PointSchema ∷ spelled.PointTables
    ∷ spelled.StrokeTables ∷ spelled.StrokeTable ∷ spelled.Timing ∷ spelled.StrokeTiming ∷ spelled.Status ∷ spelled.Quit
    ∷ spelled.StrokeQuit ∷ spelled.PointQuit ∷ spelled.Exit ∷ spelled.PointExit ∷ []

abbrev pub is_bar : ℕ → Bool
is_bar byte = byte == 124

abbrev pub has_bytes : List ℕ → Bool
has_bytes bytes = not (length bytes == 0)

-- whether bars part the fields of a text
abbrev pub is_barred : List ℕ → Bool
is_barred text = list_any is_bar text

-- a text without a `;` at its end
abbrev pub without_mark : List ℕ → List ℕ
without_mark text = strip_last 59 text

-- what a line says, without the blanks around it, and without a `;` where no bar parts fields
abbrev pub said : List ℕ → List ℕ
said line = if is_barred (trimmed line) then trimmed line else trimmed (without_mark (trimmed line))

-- the one of these spellings that a text is
unfoldable pub spelling_among : List Spelling → List ℕ → Option Spelling
spelling_among among text = find (λ spelling. are_alike (spelling_of spelling) text) among

-- the word of the terminal that a line has alone
abbrev pub word_typed : List ℕ → Option TerminalWord
word_typed line = option_map said_by (spelling_among spellings (said line))

abbrev pub is_quote : ℕ → Bool
is_quote byte = (byte == 39) || (byte == 34)

-- the quote that is open behind a byte, where this one is open before it; 0 where none is
abbrev pub quote_behind : ℕ → ℕ → ℕ
quote_behind quote byte =
    if quote == 0 then (if is_quote byte then byte else 0) else (if byte == quote then 0 else quote)

-- the quote that is open behind a text
unfoldable pub open_behind : ℕ → List ℕ → ℕ
open_behind quote [] = quote
open_behind quote (byte ∷ rest) = open_behind (quote_behind quote byte) rest

-- whether a text has quotes, and each of them is closed
abbrev pub is_quoted : List ℕ → Bool
is_quoted text = list_any is_quote text && (open_behind 0 text == 0)

-- what a byte stands for: a quote that opens or ends for nothing, a blank outside of quotes for a bar, any other for
-- itself
abbrev pub meant_by : ℕ → ℕ → List ℕ
meant_by quote byte = if quote_behind quote byte == quote
    then (if (quote == 0) && is_ascii_whitespace byte then 124 ∷ [] else byte ∷ [])
    else []

-- a text without its quotes, in which bars stand for the blanks outside of them
unfoldable pub unquoted : ℕ → List ℕ → List ℕ
unquoted quote [] = []
unquoted quote (byte ∷ rest) = meant_by quote byte ++ unquoted (quote_behind quote byte) rest

-- the words of a text: what blanks part
abbrev pub words_of : List ℕ → List (List ℕ)
words_of text = filter has_bytes (slice_split is_ascii_whitespace text)

-- the same, where a blank between quotes parts nothing
abbrev pub quoted_words : List ℕ → List (List ℕ)
quoted_words text = filter has_bytes (slice_split is_bar (unquoted 0 text))

-- the query that a field names
abbrev pub query_named : List ℕ → Option Query
query_named field = find (λ query. are_alike (name_of query) (trimmed field)) queries_and_star

-- whether a field is the word that asks
abbrev pub asks : List ℕ → Bool
asks field = are_alike (codes "query") (trimmed field)

-- the question whose name is the first of these fields, with the fields behind it
abbrev pub question_by_name : List (List ℕ) → Option (Query × List (List ℕ))
question_by_name [] = None
question_by_name (name ∷ constants) = option_map (λ query. (query, constants)) (query_named name)

-- the question that fields ask, with the word that asks before it or without
abbrev pub question_of : List (List ℕ) → Option (Query × List (List ℕ))
question_of [] = None
question_of (first ∷ behind) = if asks first then question_by_name behind else question_by_name (first ∷ behind)

abbrev pub question_in : TypedQuestion → Query × List (List ℕ)
question_in question = (question.query, map (λ constant. constant.now) question.constants.now)

-- a field behind a bar
abbrev pub field_text : List ℕ → List ℕ
field_text field = 124 ∷ trimmed field

-- the word that asks, and a query's name
abbrev pub record_head : Query → List ℕ
record_head query = codes "query|" ++ name_of query

-- the record of a script that asks a question
abbrev pub record_of : Query × List (List ℕ) → List ℕ
record_of question = (record_head question.0 ++ flat_map field_text question.1) ++ 10 ∷ []

-- the record that asks a question, or else the line
abbrev pub record_or_line : List ℕ → Option (Query × List (List ℕ)) → List ℕ
record_or_line line (Some question) = record_of question
record_or_line line None = line

abbrev pub record_spelling : RecordWord → List ℕ
record_spelling record_word.Format = codes "format"
record_spelling record_word.Columns = codes "columns"
record_spelling record_word.Values = codes "values"
record_spelling record_word.Begin = codes "begin"
record_spelling record_word.Add = codes "add"
record_spelling record_word.Amend = codes "amend"
record_spelling record_word.Put = codes "put"
record_spelling record_word.Line = codes "line"
record_spelling record_word.Withdraw = codes "withdraw"
record_spelling record_word.Commit = codes "commit"
record_spelling record_word.Ask = codes "ask"
record_spelling record_word.Answer = codes "answer"
record_spelling record_word.Order = codes "order"
record_spelling record_word.Abort = codes "abort"

-- the words of records, but for the one that asks, where bars part fields
abbrev pub barred_words : List RecordWord
barred_words = record_word.Format ∷ []

-- and where blanks do
abbrev pub blank_words : List RecordWord
blank_words = record_word.Format ∷ record_word.Columns ∷ record_word.Values ∷ record_word.Begin ∷ record_word.Add
    ∷ record_word.Amend ∷ record_word.Put ∷ record_word.Line ∷ record_word.Withdraw ∷ record_word.Commit
    ∷ record_word.Ask ∷ record_word.Answer ∷ record_word.Order ∷ record_word.Abort ∷ []

-- the one of these words that a field is
abbrev pub word_among : List RecordWord → List ℕ → Option RecordWord
word_among words field = find (λ word. are_alike (record_spelling word) (trimmed field)) words

-- the record of a word, with the fields behind it
abbrev pub word_record : RecordWord → List (List ℕ) → List ℕ
word_record word behind = (record_spelling word ++ flat_map field_text behind) ++ 10 ∷ []

-- the record of a word, if there is one, or that of a question, or else the line
abbrev pub record_behind : List ℕ → Option RecordWord → List ℕ → List (List ℕ) → List ℕ
record_behind line (Some word) first behind = word_record word behind
record_behind line None first behind = record_or_line line (question_of (first ∷ behind))

-- the record that a line's fields spell, or else the line
abbrev pub record_spelled : List ℕ → List RecordWord → List (List ℕ) → List ℕ
record_spelled line words [] = line
record_spelled line words (first ∷ behind) = record_behind line (word_among words first) first behind

abbrev pub quoted_record : List ℕ → List ℕ → List ℕ
quoted_record line text = record_spelled line blank_words (quoted_words text)

-- the record of a text whose fields blanks part
abbrev pub blank_record : List ℕ → List ℕ → List ℕ
blank_record line text =
    if is_quoted text then quoted_record line text else record_spelled line blank_words (words_of text)

-- what a session reads for a line that says this
abbrev pub record_said : List ℕ → List ℕ → List ℕ
record_said line text =
    if is_barred text then record_spelled line barred_words (slice_split is_bar text) else blank_record line text

-- what a session reads for a line
abbrev pub session_line : List ℕ → List ℕ
session_line line = record_said line (said line)

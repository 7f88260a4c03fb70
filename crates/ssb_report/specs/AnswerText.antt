-- The report of an answer.
use Rattle.std.specs.Prelude.{ℕ, List, [], ◌∷◌, ◌++◌, map, length, flat_map, codes, decimal, if◌then◌else◌}
use Rattle.std.specs.List.{concat, join_with_byte}
use Rattle.ssb_questions.specs.Query.{name_of, sum_first}
use Rattle.ssb_questions.specs.declared.query.Query.{Query}
use Rattle.ssb_questions.specs.declared.value.Value.{Value}
use Rattle.ssb_questions.specs.declared.value.Value.TheVariants.{Text, Number}
use Rattle.ssb_answers.specs.declared.answer.ResultRow.{ResultRow}
use Rattle.ssb_answers.specs.declared.answer.Answer.{Answer}
use Rattle.ssb_answers.specs.declared.answer.Answer.TheVariants as answer
use Rattle.ssb_answers.specs.declared.answer.Unserved.{Unserved}
use Rattle.ssb_answers.specs.declared.answer.Unserved.TheVariants as unserved
use Rattle.ssb_text.specs.Numbers.{line_feed, sum_text}

-- the value of a group column
abbrev pub value_text : Value → List ℕ
value_text (Text text) = text
value_text (Number number) = decimal number

-- the printed columns of a row: the sum before the group columns in the first two flights, else behind them
abbrev pub columns_of : Query → ResultRow → List (List ℕ)
columns_of query row =
    if sum_first query
    then sum_text row.sum ∷ map value_text row.groups
    else map value_text row.groups ++ sum_text row.sum ∷ []

-- a row's line: its columns joined by |
abbrev pub row_text : Query → ResultRow → List ℕ
row_text query row = join_with_byte 124 (columns_of query row) ++ line_feed

-- the line before the rows: the query, after how many commits, and how many rows
abbrev pub head_text : Query → ℕ → ℕ → List ℕ
head_text query at count = concat (name_of query ∷ codes " at " ∷ decimal at ∷ codes " rows " ∷ decimal count ∷
    line_feed ∷ [])

-- that line, and a line for each row
abbrev pub rows_text : Query → ℕ → List ResultRow → List ℕ
rows_text query at rows = head_text query at (length rows) ++ flat_map (row_text query) rows

-- the line in place of rows, of what has this name
abbrev pub unserved_by : List ℕ → Unserved → List ℕ
unserved_by name unserved.OutOfMemory = concat (name ∷ codes " unserved: out of memory" ∷ line_feed ∷ [])
unserved_by name (unserved.Twin told found) = concat
    (name ∷ codes " unserved: twin " ∷ decimal told ∷ codes " " ∷ decimal found ∷ line_feed ∷ [])

abbrev pub unserved_text : Query → Unserved → List ℕ
unserved_text query cause = unserved_by (name_of query) cause

-- the report of an answer
abbrev pub answer_text : Answer → List ℕ
answer_text (answer.Rows question at rows) = rows_text question.0 at rows
answer_text (answer.Unserved question cause) = unserved_text question.0 cause

-- a value with a | behind it
abbrev pub with_bar : Value → List ℕ
with_bar value = value_text value ++ 124 ∷ []

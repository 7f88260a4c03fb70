-- The text of a trace.
use Rattle.std.specs.Prelude.{ℕ, List, [], ◌∷◌, ◌++◌, map, length, flat_map, codes, decimal, if◌then◌else◌}
use Rattle.ssb_schema.specs.Rows.{line_values}
use Rattle.ssb_schema.specs.declared.line.LineFields.{LineFields}
use Rattle.ssb_schema.specs.declared.refresh.Action.{Action}
use Rattle.ssb_schema.specs.declared.refresh.Action.TheVariants.{Add, Amend, Put, Withdraw}
use Rattle.ssb_questions.specs.Queries.{standard_constants}
use Rattle.ssb_questions.specs.Query.{name_of}
use Rattle.ssb_questions.specs.QuestionEq.{question_eq}
use Rattle.ssb_questions.specs.declared.query.Query.{Query}
use Rattle.ssb_questions.specs.declared.value.Value.{Value}
use Rattle.ssb_answers.specs.declared.answer.ResultRow.{ResultRow}
use Rattle.row_store.specs.History.{CommitRecord}
use Rattle.ssb_text.specs.Numbers.{line_feed}
use Rattle.ssb_text.specs.TableText.{column_text, record_text}
use Rattle.ssb_report.specs.AnswerText.{row_text, value_text}
use Rattle.ssb_text.specs.Piece.{after_bar}
use Rattle.ssb_audit.specs.declared.trace.Told.{Told}
use Rattle.ssb_audit.specs.declared.trace.Trace.{Trace}

-- a line of an order
abbrev pub line_text : LineFields → List ℕ
line_text line = record_text (codes "line") (map column_text (line_values line))

-- an action: the record that begins an order and those of its lines, or the order's key
abbrev pub action_text : Action → List ℕ
action_text (Add order) = record_text (codes "add") [] ++ flat_map line_text order
action_text (Amend order) = record_text (codes "amend") [] ++ flat_map line_text order
action_text (Put order) = record_text (codes "put") [] ++ flat_map line_text order
action_text (Withdraw key) = record_text (codes "withdraw") (decimal key ∷ [])

-- a commit: its client, its actions, and its end
abbrev pub begun_text : ℕ → List Action → List ℕ
begun_text client actions = record_text (codes "commit") (decimal client ∷ []) ++ flat_map action_text actions

abbrev pub commit_text : CommitRecord → List ℕ
commit_text commit = begun_text commit.client commit.actions ++ record_text (codes "end") []

-- the constants of a question, unless they are those that its query has where none are given
abbrev pub written_constants : Query × List Value → List Value
written_constants question = if question_eq question (question.0, standard_constants question.0) then [] else question.1

-- an answer: its client, its number of commits, its query, how many rows it has, and its constants
abbrev pub count_text : Told → List ℕ
count_text told =
    codes "answer" ++ 124 ∷ (decimal told.client ++ 124 ∷
    (decimal told.at ++ 124 ∷ (name_of told.question.0 ++ 124 ∷ (decimal (length told.rows)))))

abbrev pub head_text : Told → List ℕ
head_text told = (count_text told ++ flat_map (after_bar value_text) (written_constants told.question)) ++ line_feed

-- a row, as in a report
abbrev pub told_row_text : Query → ResultRow → List ℕ
told_row_text query row = codes "row|" ++ row_text query row

abbrev pub told_text : Told → List ℕ
told_text told = head_text told ++ flat_map (told_row_text told.question.0) told.rows

-- the commits, and then the answers
abbrev pub trace_text : Trace → List ℕ
trace_text trace = flat_map commit_text trace.commits ++ flat_map told_text trace.answers

-- How the rows that passes find, question by question, are those of requests.
use Rattle.std.specs.Prelude.{List, [], ◌∷◌, length, take, drop, map}
use Rattle.std.specs.List.{flat_map}
use Rattle.ssb_answers.specs.declared.answer.Rows.{Rows}
use Rattle.ssb_answers.specs.declared.answer.ResultRow.{ResultRow}
use Rattle.history_core.specs.Events.{Question, Questions}
use Rattle.ssb_server.specs.declared.passes.RequestRows.{RequestRows}

-- the questions of these requests, one after another
abbrev pub all_questions : List Questions → List Question
all_questions requests = flat_map (λ questions. questions) requests

abbrev pub request_rows : Questions → List (List ResultRow) → RequestRows
request_rows questions rows = record { questions = questions; rows = rows }

-- the rows of the questions of one request
abbrev pub joined : List Rows → RequestRows
joined found = request_rows (map (λ (one : Rows). one.question) found) (map (λ (one : Rows). one.list) found)

-- rows of questions, cut into those of these requests
abbrev pub grouped : List Questions → List Rows → List RequestRows
grouped [] rows = []
grouped (questions ∷ requests) rows =
    joined (take (length questions) rows) ∷ grouped requests (drop (length questions) rows)

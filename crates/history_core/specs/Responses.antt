-- The answers to the questions of a request, one for each.
use Rattle.std.specs.Prelude.{◌≡◌, ℕ, List, [], ◌∷◌, map, Some, slice_get}
use Rattle.ssb_base.specs.Base.{Tables}
use Rattle.ssb_answers.specs.declared.answer.Answer.{Answer}
use Rattle.ssb_answers.specs.declared.answer.Answer.TheVariants as answer
use Rattle.ssb_answers.specs.declared.answer.ResultRow.{ResultRow}
use Rattle.row_store.specs.History.{CommitRecord}
use Rattle.history_core.specs.declared.response.Response.{Response}
use Rattle.history_core.specs.declared.response.Response.TheVariants.{Rows, Unserved}
use Rattle.history_core.specs.Events.{Question, Questions}
use Rattle.history_core.specs.World.{rows_after, all_rows_after}

-- the questions that it answers
abbrev pub asked_in : Response → Questions
asked_in (Rows questions at rows) = questions
asked_in (Unserved questions cause) = questions

-- each question with its rows, all of them after so many commits
abbrev pub answers_with : ℕ → Questions → List (List ResultRow) → List Answer
answers_with at [] rows = []
answers_with at (question ∷ questions) [] = []
answers_with at (question ∷ questions) (list ∷ rows) = answer.Rows question at list ∷ answers_with at questions rows

-- an answer to each question, in order
abbrev pub answers_in : Response → List Answer
answers_in (Rows questions at rows) = answers_with at questions rows
answers_in (Unserved questions cause) = map (λ question. answer.Unserved question cause) questions

-- of two answers with rows to one request, both are after the same number of commits
abbrev pub AnswersAreOfOneMoment : Type 0
AnswersAreOfOneMoment =
    (response : Response) (first second : ℕ) (question other : Question) (early late : ℕ) (rows more : List ResultRow)
    → slice_get (answers_in response) first ≡ Some (answer.Rows question early rows)
    → slice_get (answers_in response) second ≡ Some (answer.Rows other late more)
    → early ≡ late

-- where the rows of a response are those after a history, it answers each of its questions, in order, by the rows of that
-- question alone after that history
abbrev pub AnswersAreInOrder : Type 0
AnswersAreInOrder =
    (base : Tables) (history : List CommitRecord) (questions : Questions) (at : ℕ) (rows : List (List ResultRow))
    → rows ≡ all_rows_after base questions history
    → answers_in (Rows questions at rows)
    ≡ map (λ question. answer.Rows question at (rows_after base question history)) questions

-- What a batch answers.
use Rattle.std.specs.Prelude.{◌≤◌, List, length, map}
use Rattle.ssb_base.specs.Base.{Tables, Dimensions}
use Rattle.ssb_base.specs.Limits.{most_lines}
use Rattle.ssb_schema.specs.Facts.{facts_of}
use Rattle.ssb_schema.specs.declared.fact.Fact.{Fact}
use Rattle.row_store.specs.History.{CommitRecord, lines_after}
use Rattle.row_store.specs.State.{StandsFor}
use Rattle.fact_columns.specs.Stored.{Stored, columns_state}
use Rattle.ssb_questions.specs.declared.query.Query.{Query}
use Rattle.ssb_questions.specs.declared.value.Value.{Value}
use Rattle.ssb_answers.specs.Answer.{answer_of}
use Rattle.ssb_answers.specs.declared.answer.Rows.{Rows}

-- a batch made ready: the columns that it was prepared for, and its questions
pub record Prepared : Type 0 where
  pub columns : Stored
  pub questions : List (Query × List Value)

-- the columns stand for a history that leaves no more lines than can be summed
pub record AreSnapshot (columns : Stored) : Type 0 where
  pub history : List CommitRecord
  pub stands : StandsFor (columns_state columns) history
  pub few : length (lines_after columns.base history) ≤ most_lines

-- each question with its rows over these facts, as if it had been alone
abbrev pub answers_over : Dimensions → List Fact → List (Query × List Value) → List Rows
answers_over dimensions facts questions = map (λ question.
    record { question = question; list = answer_of question dimensions facts }) questions

-- each question with its rows after a history
abbrev pub answers_after : Tables → List CommitRecord → List (Query × List Value) → List Rows
answers_after base history questions = answers_over base.dimensions (facts_of (lines_after base history)) questions

-- What the reports of questions over a base are, which is after so many commits of its history.
use Rattle.std.specs.Prelude.{ℕ, List, [], ◌∷◌, map, Option}
use Rattle.std.specs.Io.KnownBytes.{Appends}
use Rattle.query_command.specs.Asked.{IsAsked, standard_questions}
use Rattle.ssb_questions.specs.declared.query.Query.{Query}
use Rattle.ssb_questions.specs.declared.value.Value.{Value}
use Rattle.ssb_answers.specs.Answer.{answer_of}
use Rattle.ssb_answers.specs.declared.answer.Answer.{Answer}
use Rattle.ssb_answers.specs.declared.answer.Answer.TheVariants as answer
use Rattle.ssb_answers.specs.declared.answer.Rows.{Rows}
use Rattle.ssb_formats.specs.Formats.{answers_shown}
use Rattle.ssb_formats.specs.declared.format.Format.{Format}
use Rattle.ssb_text.specs.Written.{AppendsPart}
use Rattle.ssb_base.specs.Base.{Tables}
use Rattle.ssb_schema.specs.Facts.{facts_of}

-- the answer to a question over the lines of a base
abbrev pub opening_answer : Tables → ℕ → Query × List Value → Answer
opening_answer base after question =
    answer.Rows question after (answer_of question base.dimensions (facts_of base.lines))

-- the answers to questions, one after another
abbrev pub answers_over : Tables → ℕ → List (Query × List Value) → List Answer
answers_over base after questions = map (opening_answer base after) questions

-- rows as an answer
abbrev pub opened : ℕ → Rows → Answer
opened after rows = answer.Rows rows.question after rows.list

-- known bytes grow by the answer to the question that the name and the words ask, in the format
pub record Reports (format : Format) (base : Tables) (after : ℕ) (name : List ℕ) (words : List (List ℕ))
    (old new : Option (List ℕ)) : Type 0 where
  pub question : Query × List Value
  pub asked : IsAsked name words question
  pub appends : Appends old new (answers_shown format (opening_answer base after question ∷ []))

-- known bytes grow by a part of that text from its beginning on
pub record ReportsPart (format : Format) (base : Tables) (after : ℕ) (name : List ℕ) (words : List (List ℕ))
    (old new : Option (List ℕ)) : Type 0 where
  pub question : Query × List Value
  pub asked : IsAsked name words question
  pub appends : AppendsPart old new (answers_shown format (opening_answer base after question ∷ []))

-- known bytes grow by the answers to the thirteen queries with the benchmark's constants, in order, in the format
abbrev pub ReportsAll : Format → Tables → ℕ → Option (List ℕ) → Option (List ℕ) → Type 0
ReportsAll format base after old new =
    Appends old new (answers_shown format (answers_over base after standard_questions))

-- known bytes grow by a part of that text from its beginning on
abbrev pub ReportsAllPart : Format → Tables → ℕ → Option (List ℕ) → Option (List ℕ) → Type 0
ReportsAllPart format base after old new =
    AppendsPart old new (answers_shown format (answers_over base after standard_questions))

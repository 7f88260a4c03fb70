-- A script of questions alone: what a text of it asks, and its first fault.
use Rattle.std.specs.Prelude.{◌≡◌, ◌⊎◌, ◌≤◌, ◌<◌, ◌+◌, ◌++◌, ◌∷◌, ℕ, [], List, length, flat_map, Option, option_map, Result, Ok}
use Rattle.std.specs.List.{AllZip}
use Rattle.ssb_questions.specs.declared.query.Query.{Query as Named}
use Rattle.ssb_questions.specs.declared.value.Value.{Value}
use Rattle.ssb_text.specs.Records.{BeginsWith, HasRecords}
use Rattle.ssb_text.specs.declared.records.ReadError.{ReadError}
use Rattle.ssb_text.specs.declared.records.ReadError.TheVariants as read
use Rattle.ssb_script.specs.Lines.{RecordFault, ScriptLine, line_of, line_or_bad}
use Rattle.ssb_script.specs.Lines as line
use Rattle.ssb_script.specs.Requests.{IsWholeStatement, questions_in}
use Rattle.ssb_script.specs.declared.questions.QuestionsError.{QuestionsError}
use Rattle.ssb_script.specs.declared.questions.QuestionsError.TheVariants as error
use Rattle.ssb_script.specs.declared.request.Asking.{Asking}
use Rattle.ssb_script.specs.declared.request.Asking.TheVariants.{Alone, Together, Statement as Stated}
use Rattle.ssb_sql.specs.declared.fault.SqlFault.TheVariants as sql

-- the most questions of such a script, and so the most records
abbrev pub most_alone : ℕ
most_alone = 64

-- a record that says this asks that: a question, or a statement
abbrev pub Says : Result ScriptLine RecordFault → Asking → Type 0
Says spelled (Alone question) = spelled ≡ Ok (line.Query question)
Says spelled (Stated asked) = (spelled ≡ Ok (line.Sql asked.value.text)) × IsWholeStatement asked.value
Says spelled (Together questions) = ⊥

-- a `query` record of this question, if it asks one
abbrev pub question_so : Option (Named × List Value) → Result ScriptLine RecordFault
question_so question = line_or_bad (option_map line.Query question)

-- a `sql` record of this text, if it has one
abbrev pub asked_so : Option (List ℕ) → Result ScriptLine RecordFault
asked_so text = line_or_bad (option_map line.Sql text)

abbrev pub IsAskedBy : List (List ℕ) → Asking → Type 0
IsAskedBy fields asking = Says (line_of fields) asking

-- a record that says this asks nothing: it is no question, and no statement
abbrev pub AsksNone : Result ScriptLine RecordFault → Type 0
AsksNone (Ok (line.Query question)) = ⊥
AsksNone (Ok (line.Sql text)) = ⊥
AsksNone _ = Unit {0}

-- the statement of a record that says this is refused
abbrev pub IsNoStatement : Result ScriptLine RecordFault → Type 0
IsNoStatement (Ok (line.Sql text)) = Unit {0}
IsNoStatement _ = ⊥

-- the fault of the record of a number that says this: its statement is refused, or memory ran out
abbrev pub IsRefusal : ℕ → Result ScriptLine RecordFault → QuestionsError → Type 0
IsRefusal number spelled (error.Sql n why) = (n ≡ number) × IsNoStatement spelled × (why ≡ sql.OutOfMemory → ⊥)
IsRefusal number spelled error.OutOfMemory = Unit {0}
IsRefusal number spelled _ = ⊥

-- all questions that are asked, those of a statement one after another
abbrev pub questions_of : List Asking → List (Named × List Value)
questions_of asked = flat_map questions_in asked

-- a text asks this and nothing else: each of its records asks what is in its place, and there are 1 to 64 questions
pub record AsksEach (text : List ℕ) (asked : List Asking) : Type 0 where
  pub records : List (List (List ℕ))
  pub all : HasRecords text records
  pub each : AllZip IsAskedBy records asked
  pub some : 1 ≤ length asked
  pub count : length asked ≤ most_alone
  pub few : length (questions_of asked) ≤ most_alone

-- the same by the questions
pub record AsksAlone (text : List ℕ) (questions : List (Named × List Value)) : Type 0 where
  pub asked : List Asking
  pub each : AsksEach text asked
  pub questions_are : questions ≡ questions_of asked

-- with what a record asks there are more than 64 questions
abbrev pub IsOneTooMany : List (Named × List Value) → List (List ℕ) → Type 0
IsOneTooMany questions fields =
    (asking : Asking) × IsAskedBy fields asking × (most_alone < length questions + length (questions_in asking))

-- a record adds the questions that it asks, with which there are at most 64
pub record Adds (fields : List (List ℕ)) (old new : List (Named × List Value)) : Type 0 where
  pub asking : Asking
  pub asks : IsAskedBy fields asking
  pub added : new ≡ old ++ questions_in asking
  pub few : length new ≤ most_alone

-- the fault of the record of a number behind those that ask these questions
abbrev pub IsRecordFault : ℕ → List (Named × List Value) → List (List ℕ) → QuestionsError → Type 0
IsRecordFault number questions fields (error.NotAQuestion n) =
    (n ≡ number) × (AsksNone (line_of fields) ⊎ IsOneTooMany questions fields)
IsRecordFault number questions fields (error.Sql n why) =
    (n ≡ number) × IsNoStatement (line_of fields) × (why ≡ sql.OutOfMemory → ⊥)
IsRecordFault number questions fields error.Read = ⊥
IsRecordFault number questions fields error.OutOfMemory = Unit {0}

-- the record of this number, behind those that ask this, which has these fields
pub record StandsBehind (text : List ℕ) (number : ℕ) (asked : List Asking) (fields : List (List ℕ)) : Type 0 where
  pub before : List (List (List ℕ))
  pub begins : BeginsWith text (before ++ fields ∷ [])
  pub each : AllZip IsAskedBy before asked
  pub number_is : number ≡ length before + 1

-- the record of this number is the first that asks nothing, or the first with which there are more than 64 records or
-- questions
pub record IsFirstOther (text : List ℕ) (number : ℕ) : Type 0 where
  pub asked : List Asking
  pub fields : List (List ℕ)
  pub stands : StandsBehind text number asked fields
  pub few : length (questions_of asked) ≤ most_alone
  pub other : AsksNone (line_of fields) ⊎ ((length asked ≡ most_alone) ⊎ IsOneTooMany (questions_of asked) fields)

-- the record of this number is the first whose statement is refused
pub record IsFirstRefused (text : List ℕ) (number : ℕ) : Type 0 where
  pub asked : List Asking
  pub fields : List (List ℕ)
  pub stands : StandsBehind text number asked fields
  pub is : IsNoStatement (line_of fields)

-- a text without records has no first question
pub record HasNone (text : List ℕ) (number : ℕ) : Type 0 where
  pub all : HasRecords text []
  pub number_is : number ≡ 1

-- an error tells the first record that is no question, or whose statement is refused; two tell nothing of the text: that
-- its reader failed, and that memory ran out
abbrev pub IsQuestionsFault : List ℕ → QuestionsError → Type 0
IsQuestionsFault text (error.NotAQuestion number) = IsFirstOther text number ⊎ HasNone text number
IsQuestionsFault text (error.Sql number why) = IsFirstRefused text number × (why ≡ sql.OutOfMemory → ⊥)
IsQuestionsFault text error.Read = Unit {0}
IsQuestionsFault text error.OutOfMemory = Unit {0}

-- the error of a text whose next record cannot be read
abbrev pub error_of_read : ReadError → QuestionsError
error_of_read read.Read = error.Read
error_of_read read.OutOfMemory = error.OutOfMemory

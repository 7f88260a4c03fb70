-- Questions that stand.
use Rattle.std.specs.Prelude.{◌++◌, ◌∷◌, [], ℕ, Bool, List, All, Option, flat_map, fold, is_some, position}
use Rattle.std.specs.Prelude.{if◌then◌else◌}
use Rattle.std.specs.List.{list_any}
use Rattle.ssb_base.specs.Base.{Tables}
use Rattle.ssb_questions.specs.QuestionEq.{question_eq}
use Rattle.ssb_questions.specs.declared.query.Query.{Query}
use Rattle.ssb_questions.specs.declared.value.Value.{Value}
use Rattle.fact_columns.specs.declared.scanned_line.ScannedLine.{ScannedLine}
use Rattle.shared_scan.specs.Batch.{questions_of}
use Rattle.shared_scan.specs.Follows.{FollowsOver, position_in}
use Rattle.shared_scan.specs.declared.standing.Standing.{Standing}
use Rattle.standing_columns.specs.declared.questions.StandingQuestions.{StandingQuestions}

-- whether an equal question is among these
abbrev pub is_among : List (Query × List Value) → Query × List Value → Bool
is_among questions question = list_any (λ other. question_eq other question) questions

-- the first place of an equal question
abbrev pub place_of : List (Query × List Value) → Query × List Value → Option ℕ
place_of questions question = position (λ other. question_eq other question) questions

-- these questions with one more, unless an equal one is among them
abbrev pub with_question : List (Query × List Value) → Query × List Value → List (Query × List Value)
with_question kept question = if is_among kept question then kept else kept ++ question ∷ []

-- the questions without those that are equal to an earlier one
abbrev pub each_once : List (Query × List Value) → List (Query × List Value)
each_once questions = fold with_question [] questions

-- the questions of batches, one batch after another
abbrev pub questions_in : List Standing → List (Query × List Value)
questions_in batches = flat_map (λ (one : Standing). questions_of one.batch.value.questions.items) batches

-- whether the question stands, in one of the batches
abbrev pub stands : StandingQuestions → Query × List Value → Bool
stands standing question = list_any (λ (batch : Standing). is_some (position_in batch question)) standing.batches.items

-- the totals of each batch are those of the lines, over this base
abbrev pub AllFollow : StandingQuestions → Tables → List ScannedLine → Type 0
AllFollow standing base lines = All (λ (batch : Standing). FollowsOver batch base lines) standing.batches.items

-- The answers to a statement's questions, and what is printed of them.
use Rattle.std.specs.Prelude.{⊤, ◌≡◌, ℕ, ◌<◌, List, length, Some, slice_get, unwrap_or}
use Rattle.ssb_sql.specs.declared.statement.GroupTest.{GroupTest}
use Rattle.ssb_base.specs.Base.{Dimensions}
use Rattle.ssb_schema.specs.declared.fact.Fact.{Fact}
use Rattle.ssb_questions.specs.StarMeaning.{by_columns}
use Rattle.ssb_questions.specs.declared.plan.Measure.{Measure}
use Rattle.ssb_questions.specs.declared.plan.Measure.TheVariants as measure
use Rattle.ssb_questions.specs.declared.plan.Plan.{Plan}
use Rattle.ssb_answers.specs.Answer.{answer}
use Rattle.ssb_answers.specs.declared.answer.Answer.{Answer}
use Rattle.ssb_sql.specs.declared.statement.Shown.{Shown}
use Rattle.ssb_sql.specs.declared.statement.Shown.TheVariants as shown
use Rattle.ssb_statements.specs.Arranged.{number_of, rows_in}
use Rattle.ssb_statements.specs.Statement.{Item, Column, Total, Lines, Average, Test}

-- the question of one sum: the same lines in the same groups, in the order of the group columns
abbrev pub plan_for : Plan → Measure → Plan
plan_for plan measure = record plan { measure = measure; order = by_columns (length plan.groups) }

-- the answers are those to these questions over the same lines
pub record AreAnswers (plan : Plan) (measures : List Measure) (dimensions : Dimensions) (facts : List Fact)
    (answers : List Answer) : Type 0 where
  pub count : length answers ≡ length measures
  pub each : (place : ℕ) (m : Measure) (a : Answer) → slice_get measures place ≡ Some m → slice_get answers place ≡ Some a
      → rows_in a ≡ answer (plan_for plan m) dimensions facts

-- what is printed names a question; where lines are to be counted, one that counts them
abbrev pub IsPrinted : List Measure → Shown → Type 0
IsPrinted measures (shown.Group place) = ⊤
IsPrinted measures (shown.Sum place) = place < length measures
IsPrinted measures (shown.Count place) = slice_get measures place ≡ Some measure.Lines
IsPrinted measures (shown.Average sum lines) =
    (sum < length measures) × (slice_get measures lines ≡ Some measure.Lines)

-- what it is of a group
abbrev pub item_of : List Measure → Shown → Item
item_of measures (shown.Group place) = Column place
item_of measures (shown.Sum place) = Total (unwrap_or (slice_get measures place) measure.Lines)
item_of measures (shown.Count place) = Lines
item_of measures (shown.Average sum lines) = Average (unwrap_or (slice_get measures sum) measure.Lines)

-- the same of what is tested
abbrev pub IsTested : List Measure → GroupTest → Type 0
IsTested measures test = IsPrinted measures test.shown

abbrev pub test_of : List Measure → GroupTest → Test
test_of measures test = record {
  item = item_of measures test.shown;
  comparison = test.comparison;
  number = number_of test.number;
}

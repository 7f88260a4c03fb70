-- What is true of statements.
use Rattle.std.specs.Prelude.{◌≡◌, ◌<◌, false, All, List, ◌∷◌, length, map}
use Rattle.std.specs.List.{list_any}
use Rattle.ssb_base.specs.Base.{Dimensions}
use Rattle.ssb_schema.specs.declared.fact.Fact.{Fact}
use Rattle.ssb_questions.specs.Clause.{Clause, Sums}
use Rattle.ssb_questions.specs.Star.{is_order, star_plan}
use Rattle.ssb_questions.specs.declared.plan.Measure.{Measure}
use Rattle.ssb_questions.specs.declared.plan.Plan.{Plan}
use Rattle.ssb_answers.specs.declared.answer.Answer.{Answer}
use Rattle.ssb_sql.specs.declared.statement.Shown.{Shown}
use Rattle.ssb_sql.specs.declared.statement.GroupTest.{GroupTest}
use Rattle.ssb_statements.specs.Arranged.{cells_at, numbers_kept}
use Rattle.ssb_statements.specs.SideBySide.{AreAnswers, IsPrinted, IsTested, item_of, plan_for, test_of}
use Rattle.ssb_statements.specs.Statement.{rows_by_group}

-- the answers to a statement's questions over the same lines, side by side, are the statement's rows
abbrev pub StatementsAreTheirQuestions : Type 0
StatementsAreTheirQuestions =
    (plan : Plan) (measures : List Measure) (shown : List Shown) (having : List GroupTest) (dimensions : Dimensions)
    (facts : List Fact) (answers : List Answer) → AreAnswers plan measures dimensions facts answers
    → 0 < length measures → All (IsPrinted measures) shown → All (IsTested measures) having
    → map (cells_at answers shown) (numbers_kept answers having)
    ≡ rows_by_group plan (map (item_of measures) shown) (map (test_of measures) having) dimensions facts

-- the question of each sum is one of `star`: where clauses give the plan, with this measure in the place of the first
abbrev pub QuestionsAreOfStar : Type 0
QuestionsAreOfStar =
    (clauses : List Clause) (first measure : Measure) → list_any is_order clauses ≡ false
    → plan_for (star_plan (Sums first ∷ clauses)) measure ≡ star_plan (Sums measure ∷ clauses)

use Rattle.std.proofs.Common.{arith}
-- From the answers over places to those after a history.
use Rattle.std.proofs.Common.{◌≡◌, ◌≤◌, List, [], ◌∷◌, length, refl, ◌∙◌}
use Rattle.std.specs.Prelude.{IsPermutation}
use Rattle.ssb_base.specs.Base.{Dimensions}
use Rattle.ssb_schema.specs.declared.fact.Fact.{Fact}
use Rattle.row_store.specs.History.{CommitRecord}
use Rattle.row_store.specs.State.{StandsFor}
use Rattle.ssb_questions.specs.declared.query.Query.{Query}
use Rattle.ssb_questions.specs.declared.value.Value.{Value}
use Rattle.ssb_answers.proofs.RearrangementLaws.{questions_ignore_order}
use Rattle.fact_columns.specs.Places.{live_facts}
use Rattle.fact_columns.specs.Stored.{Stored, IsRead, columns_state}
use Rattle.fact_columns.proofs.ColumnLaws.{live_facts_are_the_lines}
use Rattle.shared_scan.specs.Answers.{answers_over, answers_after}
use Rattle.ssb_base.specs.Limits.{most_lines}
use Rattle.shared_scan.specs.Lines.{AreOfBase}

-- a rearrangement of the lines has the same answers
pub answers_ignore_order : (dimensions : Dimensions) (facts other : List Fact) (questions : List (Query × List Value))
    → IsPermutation facts other → answers_over dimensions facts questions ≡ answers_over dimensions other questions
answers_ignore_order dimensions facts other [] moved = refl
answers_ignore_order dimensions facts other (question ∷ questions) moved =
    λ j. record { question = question; list = questions_ignore_order question dimensions facts other moved j } ∷
    answers_ignore_order dimensions facts other questions moved j

-- the places of the columns are of their base
pub of_base : (columns : Stored) → IsRead columns → length columns.facts ≤ most_lines
    → AreOfBase columns.base columns.places
of_base columns read few = grind arith

-- the answers over the live facts of columns are those after any history that the columns stand for
pub answers_of_history : (columns : Stored) (history : List CommitRecord) (questions : List (Query × List Value))
    → IsRead columns → StandsFor (columns_state columns) history
    → answers_over columns.base.dimensions (live_facts columns.base.dimensions columns.places) questions ≡
    answers_after columns.base history questions
answers_of_history columns history questions read stands = grind (arith, answers_ignore_order, live_facts_are_the_lines)

use Rattle.std.proofs.Common.{arith}
-- The answers to one request.
use Rattle.std.proofs.Common.{◌≡◌, ℕ, zero, suc, List, [], ◌∷◌, map, Some, refl, ap, ◌∙◌}
use Rattle.std.specs.Prelude.{slice_get}
use Rattle.ssb_base.specs.Base.{Tables}
use Rattle.ssb_answers.specs.declared.answer.Answer.TheVariants as answer
use Rattle.ssb_answers.specs.declared.answer.ResultRow.{ResultRow}
use Rattle.ssb_answers.specs.declared.answer.Unserved.{Unserved as Cause}
use Rattle.row_store.specs.History.{CommitRecord}
use Rattle.history_core.specs.declared.response.Response.TheVariants.{Rows, Unserved}
use Rattle.history_core.specs.Events.{Question, Questions}
use Rattle.history_core.specs.World.{rows_after, all_rows_after}
use Rattle.history_core.specs.Responses.{answers_with, AnswersAreOfOneMoment, AnswersAreInOrder}
use Rattle.history_core.proofs.HistoryLaws.{some_injective, some_ne_none}

of_moment : (at : ℕ) (questions : Questions) (rows : List (List ResultRow)) (place : ℕ) (question : Question) (found : ℕ)
    (list : List ResultRow) → slice_get (answers_with at questions rows) place ≡ Some (answer.Rows question found list)
    → at ≡ found
of_moment at [] rows place q found list e = grind (arith, some_ne_none)
of_moment at (p ∷ questions) [] place q found list e = grind (arith, some_ne_none)
of_moment at (p ∷ questions) (own ∷ rows) zero q found list e = grind (arith, some_injective)
of_moment at (p ∷ questions) (own ∷ rows) (suc place) q found list e = grind (arith, of_moment at questions rows place q found list e)

no_rows : (questions : Questions) (cause : Cause) (place : ℕ) (question : Question) (found : ℕ) (list : List ResultRow)
    → slice_get (map (λ q. answer.Unserved q cause) questions) place ≡ Some (answer.Rows question found list) → ⊥
no_rows [] cause place q found list e = grind (arith, some_ne_none)
no_rows (p ∷ questions) cause zero q found list e = grind (arith, some_injective)
no_rows (p ∷ questions) cause (suc place) q found list e = grind (arith, no_rows questions cause place q found list e)

pub one_moment : AnswersAreOfOneMoment
one_moment (Rows questions at rows) first second question other early late list more e h = grind (arith, of_moment)
one_moment (Unserved questions cause) first second question other early late list more e h = grind (arith, no_rows)

each_with : (base : Tables) (history : List CommitRecord) (at : ℕ) (questions : Questions)
    → answers_with at questions (all_rows_after base questions history)
    ≡ map (λ question. answer.Rows question at (rows_after base question history)) questions
each_with base history at [] = refl
each_with base history at (question ∷ questions) =
    ap (λ l. answer.Rows question at (rows_after base question history) ∷ l) (each_with base history at questions)

pub in_order : AnswersAreInOrder
in_order base history questions at rows is = ap (answers_with at questions) is ∙ each_with base history at questions

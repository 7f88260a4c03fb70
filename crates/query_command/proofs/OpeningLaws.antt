-- The answers over the lines of a base, before any commit of a run.
use Rattle.std.proofs.Common.{◌≡◌, ℕ, List, [], ◌∷◌, map, refl, ap}
use Rattle.shared_scan.specs.Answers.{answers_after}
use Rattle.query_command.specs.Reported.{answers_over, opened, opening_answer}
use Rattle.ssb_questions.specs.declared.query.Query.{Query}
use Rattle.ssb_questions.specs.declared.value.Value.{Value}
use Rattle.ssb_base.specs.Base.{Tables}

-- the rows of a batch after no commit, as answers
pub opened_rows : (base : Tables) (after : ℕ) (questions : List (Query × List Value))
    → map (opened after) (answers_after base [] questions) ≡ answers_over base after questions
opened_rows base after [] = refl
opened_rows base after (question ∷ questions) = ap (λ answers. opening_answer base after question ∷ answers)
    (opened_rows base after questions)

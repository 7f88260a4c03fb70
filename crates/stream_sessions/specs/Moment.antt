-- What a client gets for the questions of one request, in a reader's words.
use Rattle.std.specs.Prelude.{◌≡◌, ◌⊎◌, ℕ, ◌≤◌, List, length, map, take}
use Rattle.ssb_answers.specs.declared.answer.Answer.{Answer}
use Rattle.ssb_answers.specs.declared.answer.Answer.TheVariants.{Rows, Unserved}
use Rattle.ssb_answers.specs.declared.answer.Unserved.{Unserved as Cause}
use Rattle.history_core.specs.Events.{Questions}
use Rattle.history_core.specs.World.{rows_after}
use Rattle.history.specs.Tokens.{TokenRecord}
use Rattle.stream_sessions.specs.Served.{IsAnswered}

-- each question is answered, in order, by its own rows, and all of them after the same number of commits: at least as
-- many as the client had seen before it asked, and at most as many as it sees then
pub record AreOfOneMoment (before : TokenRecord) (questions : Questions) (answers : List Answer) (after : TokenRecord) :
    Type 0 where
  pub at : ℕ
  pub not_older : length before.seen ≤ at
  pub not_newer : at ≤ length after.seen
  pub answers_are : answers
      ≡ map (λ question. Rows question at (rows_after before.table.base question (take at after.seen))) questions

-- no question is answered, and all for the same cause
abbrev pub AreUnserved : Questions → List Answer → Type 0
AreUnserved questions answers =
    (cause : Cause) × (answers ≡ map (λ question. Unserved question cause) questions)

-- the answers to the questions of one request are of one moment, or it has none
abbrev pub OneMoment : Type 0
OneMoment = (before after : TokenRecord) (questions : Questions) (answers : List Answer)
    → IsAnswered before questions answers after
    → AreOfOneMoment before questions answers after ⊎ AreUnserved questions answers

-- What tokens say, read one after another by the table.
use Rattle.std.specs.Prelude.{ℕ, Bool, true, false, List, [], ◌∷◌, length, Option, None, Some, Result, Ok, Err}
use Rattle.ssb_sql.specs.Step.{step, may_end}
use Rattle.ssb_sql.specs.declared.piece.SqlPiece.{SqlPiece}
use Rattle.ssb_sql.specs.declared.state.InList.TheVariants.{Start}
use Rattle.ssb_sql.specs.declared.state.State.{State}
use Rattle.ssb_sql.specs.declared.state.State.TheVariants as state
use Rattle.ssb_sql.specs.declared.state.SqlStep.{SqlStep}
use Rattle.ssb_sql.specs.declared.token.SqlToken.{SqlToken}

-- the pieces; or how many tokens are left from the first that may not come, 0 where more had to come
abbrev pub Outcome : Type 0
Outcome = Result (List SqlPiece) ℕ

abbrev pub say : SqlPiece → Outcome → Outcome
say piece (Ok pieces) = Ok (piece ∷ pieces)
say piece (Err left) = Err left

abbrev pub said : Option SqlPiece → Outcome → Outcome
said None outcome = outcome
said (Some piece) outcome = say piece outcome

abbrev pub ended : Bool → Outcome
ended true = Ok []
ended false = Err 0

abbrev pub gone_on : Option SqlStep → ℕ → (State → Outcome) → Outcome
gone_on None left on = Err left
gone_on (Some taken) left on = said taken.says (on taken.next)

abbrev pub run : List SqlToken → State → Outcome
run [] at = ended (may_end at)
run (token ∷ tokens) at = gone_on (step at token) (length (token ∷ tokens)) (run tokens)

-- what a statement says
abbrev pub read : List SqlToken → Outcome
read tokens = run tokens (state.List Start)

-- what so many pieces and then an outcome make
abbrev pub say_all : List SqlPiece → Outcome → Outcome
say_all [] outcome = outcome
say_all (piece ∷ pieces) outcome = say piece (say_all pieces outcome)

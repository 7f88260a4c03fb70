-- Tokens and pieces, by the bytes of the texts in them and not by where these lie.
use Rattle.std.specs.Prelude.{ℕ, List, option_map}
use Rattle.std.specs.Borrow.{Bor}
use Rattle.ssb_questions.specs.declared.clause.Spelled.{Spelled}
use Rattle.ssb_questions.specs.declared.clause.Spelled.TheVariants as spelled
use Rattle.ssb_sql.specs.declared.piece.SqlPiece.{SqlPiece}
use Rattle.ssb_sql.specs.declared.piece.SqlPiece.TheVariants as piece
use Rattle.ssb_sql.specs.declared.state.InTests.{InTests}
use Rattle.ssb_sql.specs.declared.state.InTests.TheVariants as tests
use Rattle.ssb_sql.specs.declared.state.SqlStep.{SqlStep}
use Rattle.ssb_sql.specs.declared.state.State.{State}
use Rattle.ssb_sql.specs.declared.state.State.TheVariants as state
use Rattle.ssb_sql.specs.declared.token.SqlToken.{SqlToken}
use Rattle.ssb_sql.specs.declared.token.SqlToken.TheVariants as k

-- a text of these bytes, wherever it lies
abbrev pub anywhere : List ℕ → Bor (List ℕ)
anywhere bytes = record { ref_ptr = (0, 0); now = bytes }

abbrev pub bare : Bor (List ℕ) → Bor (List ℕ)
bare text = anywhere text.now

abbrev pub bare_value : Spelled → Spelled
bare_value (spelled.Text text) = spelled.Text (bare text)
bare_value (spelled.Number n) = spelled.Number n

abbrev pub bare_token : SqlToken → SqlToken
bare_token (k.Value v) = k.Value (bare_value v)
bare_token (k.Name name) = k.Name (bare name)
bare_token token = token

abbrev pub bare_piece : SqlPiece → SqlPiece
bare_piece (piece.Called name) = piece.Called (bare name)
bare_piece (piece.Is o v) = piece.Is o (bare_value v)
bare_piece (piece.OrIs o v) = piece.OrIs o (bare_value v)
bare_piece (piece.Stands o how v) = piece.Stands o how (bare_value v)
bare_piece (piece.Between o from to) = piece.Between o (bare_value from) (bare_value to)
bare_piece (piece.OrdersByName name) = piece.OrdersByName (bare name)
bare_piece own = own

-- a reading on its way
abbrev pub bare_tests : InTests → InTests
bare_tests (tests.And o v) = tests.And o (bare_value v)
bare_tests (tests.To o v) = tests.To o (bare_value v)
bare_tests at = at

abbrev pub bare_state : State → State
bare_state (state.Tests at) = state.Tests (bare_tests at)
bare_state at = at

abbrev pub bare_step : SqlStep → SqlStep
bare_step taken = record { next = bare_state taken.next; says = option_map bare_piece taken.says }

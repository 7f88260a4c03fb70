-- What a text means: its tokens are read as pieces, and the statement has what these say.
use Rattle.std.specs.Prelude.{◌≡◌, ℕ, List, Option, Some, option_and_then}
use Rattle.std.specs.Result.{result_ok}
use Rattle.ssb_sql.specs.Reading.{read}
use Rattle.ssb_sql.specs.Said.{Says}
use Rattle.ssb_sql.specs.Tokens.{tokens_in}
use Rattle.ssb_sql.specs.declared.piece.SqlPiece.{SqlPiece}
use Rattle.ssb_sql.specs.declared.statement.Statement.{Statement}

-- what a text says, piece by piece; none where it has no tokens, or these are no statement
abbrev pub pieces_in : List ℕ → Option (List SqlPiece)
pieces_in text = option_and_then (λ tokens. result_ok (read tokens)) (tokens_in text)

-- a text means a statement; of what a statement has, `Says` names the fields that this determines
pub record Means (text : List ℕ) (statement : Statement) : Type 0 where
  pub pieces : List SqlPiece
  pub are : pieces_in text ≡ Some pieces
  pub says : Says pieces statement

-- Tokens mean one thing, since each statement is read as what it says.
use Rattle.std.proofs.Common.{◌≡◌, ◌∙◌, ap, List, Ok}
use Rattle.ssb_sql.proofs.ReadLaws.{statements_read}
use Rattle.ssb_sql.specs.Laws.{TokensMeanOneThing}
use Rattle.ssb_sql.specs.Reading.{Outcome, read}
use Rattle.ssb_sql.specs.declared.piece.SqlPiece.{SqlPiece}

one_outcome : (a b : List SqlPiece) (outcome : Outcome) → outcome ≡ Ok a → outcome ≡ Ok b → a ≡ b
one_outcome a b outcome is other = cc

pub mean_one : TokensMeanOneThing
mean_one a b same = one_outcome _ _ _ (statements_read a) (ap read same ∙ statements_read b)

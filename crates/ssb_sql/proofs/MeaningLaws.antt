-- What a text says, by the tokens and the pieces that are found in it.
use Rattle.std.proofs.Common.{◌≡◌, ◌∙◌, ap, refl, sym, subst, ℕ, List, [], ◌∷◌, map, Option, None, Some, option_and_then}
use Rattle.std.proofs.Common.{Ok, Err, inl, inr}
use Rattle.std.specs.Prelude.{filter_map, slice_get}
use Rattle.std.specs.Result.{result_ok}
use Rattle.std.specs.List.{cons_option}
use Rattle.ssb_sql.proofs.BareLaws.{reads, bare_outcome}
use Rattle.ssb_sql.specs.Laws.{ReadingsOfATextAgree}
use Rattle.ssb_sql.specs.Meaning.{Means, pieces_in}
use Rattle.ssb_sql.specs.Reading.{read}
use Rattle.ssb_sql.specs.Said.{Says, group_said, groups_said, limit_said, most_said}
use Rattle.ssb_sql.specs.Texts.{bare_piece, bare_token}
use Rattle.ssb_sql.specs.Tokens.{tokens_in}
use Rattle.ssb_sql.specs.declared.fault.SqlFault.{SqlFault}
use Rattle.ssb_sql.specs.declared.piece.SqlPiece.{SqlPiece}
use Rattle.ssb_sql.specs.declared.piece.SqlPiece.TheVariants as piece
use Rattle.ssb_sql.specs.declared.statement.Statement.{Statement}
use Rattle.ssb_sql.specs.declared.token.SqlToken.{SqlToken}

found : (text : List ℕ) (tokens : List SqlToken) → tokens_in text ≡ Some (map bare_token tokens)
    → pieces_in text ≡ result_ok (bare_outcome (read tokens))
found text tokens are =
    ap (option_and_then (λ own. result_ok (read own))) are ∙ ap (λ o. result_ok o) (reads tokens)

pub says : (text : List ℕ) (tokens : List SqlToken) (pieces : List SqlPiece)
    → tokens_in text ≡ Some (map bare_token tokens) → read tokens ≡ Ok pieces
    → pieces_in text ≡ Some (map bare_piece pieces)
says text tokens pieces are is = found text tokens are ∙ ap (λ o. result_ok (bare_outcome o)) is

-- ---- wherever texts lie, pieces say the same

same_group : (own : SqlPiece) → group_said (bare_piece own) ≡ group_said own
same_group (piece.Called name) = refl
same_group (piece.Is o v) = refl
same_group (piece.OrIs o v) = refl
same_group (piece.Stands o how v) = refl
same_group (piece.Between o from to) = refl
same_group (piece.OrdersByName name) = refl
same_group _ = refl

same_most : (own : SqlPiece) → most_said (bare_piece own) ≡ most_said own
same_most (piece.Called name) = refl
same_most (piece.Is o v) = refl
same_most (piece.OrIs o v) = refl
same_most (piece.Stands o how v) = refl
same_most (piece.Between o from to) = refl
same_most (piece.OrdersByName name) = refl
same_most _ = refl

all_same : {X : Type 0} (f : SqlPiece → Option X) → ((own : SqlPiece) → f (bare_piece own) ≡ f own)
    → (pieces : List SqlPiece) → filter_map f (map bare_piece pieces) ≡ filter_map f pieces
all_same f same [] = refl
all_same f same (own ∷ pieces) =
    ap (λ o. cons_option o (filter_map f (map bare_piece pieces))) (same own)
    ∙ ap (cons_option (f own)) (all_same f same pieces)

pub means : (text : List ℕ) (pieces : List SqlPiece) (statement : Statement)
    → pieces_in text ≡ Some (map bare_piece pieces) → Says pieces statement → Means text statement
means text pieces statement are own = record {
  pieces = map bare_piece pieces;
  are = are;
  says = record {
    groups = own.groups ∙ sym (all_same group_said same_group pieces);
    limit = own.limit ∙ ap (λ all. slice_get all 0) (sym (all_same most_said same_most pieces));
  };
}

one : (a b : List SqlPiece) (outcome : Option (List SqlPiece)) → outcome ≡ Some a → outcome ≡ Some b → a ≡ b
one a b outcome is other = cc

pub one_meaning : ReadingsOfATextAgree
one_meaning text a b is other =
    let same = one is.pieces other.pieces (pieces_in text) is.are other.are in (
      is.says.groups ∙ (ap groups_said same ∙ sym other.says.groups),
      is.says.limit ∙ (ap limit_said same ∙ sym other.says.limit),
    )

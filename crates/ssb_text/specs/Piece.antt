-- The text of a piece of a line.
use Rattle.std.specs.Prelude.{ℕ, List, ◌∷◌, decimal}
use Rattle.ssb_text.specs.Numbers.{sum_text}
use Rattle.ssb_text.specs.declared.piece.Piece.{Piece}
use Rattle.ssb_text.specs.declared.piece.Piece.TheVariants.{Text, Number, Sum}

abbrev pub piece_text : Piece → List ℕ
piece_text (Text text) = text.now
piece_text (Number number) = decimal number
piece_text (Sum sum) = sum_text sum

-- a value's text behind a bar
abbrev pub after_bar : {V : Type 0} → (V → List ℕ) → V → List ℕ
after_bar text value = 124 ∷ text value

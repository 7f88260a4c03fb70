-- What writing does to the bytes that a writer holds, where they are known.
use Rattle.std.specs.Prelude.{◌≡◌, ℕ, ◌<◌, List, ◌++◌, length, Option, Result, MatchResult}
use Rattle.std.specs.Io.KnownBytes.{Appends}

-- known bytes grow by a part of the text from its beginning on
pub record AppendsPart (old new : Option (List ℕ)) (text : List ℕ) : Type 0 where
  pub part : List ℕ
  pub rest : List ℕ
  pub begins : text ≡ part ++ rest
  pub appends : Appends old new part

-- the same, and something of the text is left
pub record StopsShort (old new : Option (List ℕ)) (text : List ℕ) : Type 0 where
  pub part : List ℕ
  pub rest : List ℕ
  pub begins : text ≡ part ++ rest
  pub left : 0 < length rest
  pub appends : Appends old new part

-- known bytes grow by the text; where the result is a fault, by a part of it from its beginning on, and something is
-- left
abbrev pub Writes : {X E : Type 0} → Option (List ℕ) → Option (List ℕ) → Result X E → List ℕ → Type 0
Writes old new result text = MatchResult result (λ _. Appends old new text) (λ _. StopsShort old new text)

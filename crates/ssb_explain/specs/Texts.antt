-- Texts put together.
use Rattle.std.specs.Prelude.{ℕ, ◌==◌, List, [], ◌∷◌, ◌++◌, codes, map}
use Rattle.std.specs.List.{join_by, slice_split}
use Rattle.std.specs.String.{string_bytes}

-- the texts, with a text between each two
abbrev pub joined : List ℕ → List (List ℕ) → List ℕ
joined between texts = join_by (λ text. text) between texts

abbrev pub commas : List (List ℕ) → List ℕ
commas texts = joined (codes ", ") texts

-- a text with another one in place of each such byte
abbrev pub replaced : ℕ → List ℕ → List ℕ → List ℕ
replaced byte other text = joined other (slice_split (λ b. b == byte) text)

-- The lines of a text, and how they end.
use Rattle.std.specs.Prelude.{◌≡◌, ◌≢◌, ℕ, List, [], ◌∷◌, ◌++◌}
use Rattle.std.specs.List.{AllByRecursion, concat}
use Rattle.csv.specs.Reading.{strip_bom}

-- none of these bytes is an LF
abbrev pub HasNoLineEnd : List ℕ → Type 0
HasNoLineEnd bytes = AllByRecursion (λ b. b ≢ 10) bytes

-- a whole line: its last byte is an LF, and no other is
abbrev pub IsLine : List ℕ → Type 0
IsLine [] = ⊥
IsLine (b ∷ []) = b ≡ 10
IsLine (b ∷ next ∷ bytes) = (b ≢ 10) × IsLine (next ∷ bytes)

-- the whole lines of a text, in order, and the bytes behind the last LF
pub record AreLines (text : List ℕ) (lines : List (List ℕ)) (last : List ℕ) : Type 0 where
  pub joined : text ≡ concat lines ++ last
  pub each : AllByRecursion IsLine lines
  pub behind : HasNoLineEnd last

-- a text has lines, and no others
abbrev pub HasItsLines : List ℕ → Type 0
HasItsLines text =
    (lines : List (List ℕ)) × (last : List ℕ) × AreLines text lines last
    × ((others : List (List ℕ)) (end : List ℕ) → AreLines text others end → (others ≡ lines) × (end ≡ last))

-- each CR of a text stands before an LF
abbrev pub HasNoLoneReturn : List ℕ → Type 0
HasNoLoneReturn [] = Unit {0}
HasNoLoneReturn (b ∷ []) = b ≢ 13
HasNoLoneReturn (b ∷ next ∷ bytes) = (b ≡ 13 → next ≡ 10) × HasNoLoneReturn (next ∷ bytes)

-- a text does not begin with a byte order mark
abbrev pub HasNoMark : List ℕ → Type 0
HasNoMark bytes = strip_bom bytes ≡ bytes

-- each CR of a text stands before an LF, and none of its bytes begins a byte order mark
abbrev pub IsPlainText : List ℕ → Type 0
IsPlainText text = HasNoLoneReturn text × AllByRecursion (λ b. b ≢ 239) text

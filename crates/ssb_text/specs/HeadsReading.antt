-- What is known of the first line of a reader's bytes, once it was read.
use Rattle.std.specs.Prelude.{◌≡◌, ◌≢◌, ℕ, ◌<◌, List, ◌∷◌, ◌++◌, length, count_by, Option, Some}
use Rattle.std.specs.List.{AllByRecursion}
use Rattle.ssb_text.specs.Layouts.{most_heads, parts}
use Rattle.ssb_text.specs.declared.layout.Delimiter.{Delimiter}

-- bytes without a line feed, and fewer than a line of heads may have
abbrev pub IsShortLine : List ℕ → Type 0
IsShortLine line = AllByRecursion (λ b. b ≢ 10) line × (length line < most_heads)

-- no such line ends with a line feed
abbrev pub HasNoLine : Option (List ℕ) → Type 0
HasNoLine known = (line rows : List ℕ) → known ≡ Some (line ++ 10 ∷ rows) → IsShortLine line → ⊥

-- one did, and so many of its bytes part fields
abbrev pub EndsLine : Delimiter → Option (List ℕ) → Option (List ℕ) → ℕ → Type 0
EndsLine delimiter old new count = (file : List ℕ) → old ≡ Some file
    → (line : List ℕ) × (rows : List ℕ) × (new ≡ Some rows) × (file ≡ line ++ 10 ∷ rows) × IsShortLine line
    × (count_by (parts delimiter) line ≡ count)

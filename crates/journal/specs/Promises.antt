-- What was promised of a file: whatever crashes leaves it.
use Rattle.std.specs.Prelude.{List, ℕ}
use Rattle.journal.specs.Reading.{HasFirst}

-- whatever a crash leaves begins with these groups
abbrev pub AreLeft : List (List ℕ) → (List ℕ → Type 0) → Type 0
AreLeft groups outcomes = (file : List ℕ) → outcomes file → HasFirst groups file

-- whatever a crash leaves in the course of a step begins with these groups
abbrev pub AreLeftIn : (List ℕ → List ℕ → Type 0) → List (List ℕ) → (List ℕ → Type 0) → Type 0
AreLeftIn step groups outcomes = (old new : List ℕ) → outcomes old → step old new → HasFirst groups new

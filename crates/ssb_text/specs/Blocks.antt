-- A text in blocks. It is cut before line feeds, so that each block but the first begins with one: then the records of
-- the text are those of its blocks, whatever stands in them.
use Rattle.std.specs.Prelude.{◌≡◌, ℕ, Bool, true, List, [], ◌∷◌, ◌++◌, Option, Some, ◌==◌}
use Rattle.std.specs.Io.KnownBytes.{prepend_known}
use Rattle.ssb_text.specs.declared.blocks.Blocks.{Blocks}

-- whether a text has no bytes or begins with a line feed
abbrev pub starts_line : List ℕ → Bool
starts_line [] = true
starts_line (b ∷ rest) = b == 10

-- what may stand behind the first part of a text: behind no bytes anything, and else nothing or a line feed first
abbrev pub Follows : List ℕ → List ℕ → Type 0
Follows [] next = Unit {0}
Follows (b ∷ bytes) next = starts_line next ≡ true

-- the blocks, one behind the other
abbrev pub joined : List (List ℕ) → List ℕ
joined [] = []
joined (b ∷ bs) = b ++ joined bs

-- behind each of the blocks a line starts, or nothing stands
abbrev pub AreCut : List (List ℕ) → List ℕ → Type 0
AreCut [] rest = Unit {0}
AreCut (b ∷ bs) rest = (starts_line (joined bs ++ rest) ≡ true) × AreCut bs rest

-- the bytes that no block has given yet, if the source's are known
abbrev pub bytes_left : {R H : Type 0} → (R → Option (List ℕ)) → Blocks R H → Option (List ℕ)
bytes_left remaining blocks = prepend_known blocks.carry.items (remaining blocks.source)

-- of whatever bytes were left, these stood first, and behind them a line starts, or nothing stands
abbrev pub GivesBlock : Option (List ℕ) → Option (List ℕ) → List ℕ → Type 0
GivesBlock old new block = (text : List ℕ) → old ≡ Some text
    → (rest : List ℕ) × (new ≡ Some rest) × (text ≡ block ++ rest) × (starts_line rest ≡ true)

-- the same, of some blocks
abbrev pub GivesBlocks : Option (List ℕ) → Option (List ℕ) → List (List ℕ) → Type 0
GivesBlocks old new blocks = (text : List ℕ) → old ≡ Some text
    → (rest : List ℕ) × (new ≡ Some rest) × (text ≡ joined blocks ++ rest) × AreCut blocks rest

-- no bytes were left, and none are
abbrev pub WasAll : Option (List ℕ) → Option (List ℕ) → Type 0
WasAll old new = (text : List ℕ) → old ≡ Some text → (text ≡ []) × (new ≡ Some [])

-- of this text the source's bytes are left, and those before them were hashed
abbrev pub HasHashed : {R H : Type 0} → (R → Option (List ℕ)) → (H → List ℕ → Type 0) → List ℕ → Blocks R H → Type 0
HasHashed remaining holds text blocks =
    (front : List ℕ) × (rest : List ℕ) × (remaining blocks.source ≡ Some rest) × (text ≡ front ++ rest)
    × holds blocks.hash front

-- whatever the text is of which the bytes were hashed before, they are now
abbrev pub HashesOn : {R H : Type 0} → (R → Option (List ℕ)) → (H → List ℕ → Type 0) → Blocks R H → Blocks R H → Type 0
HashesOn remaining holds old new = (text : List ℕ) → HasHashed remaining holds text old
    → HasHashed remaining holds text new

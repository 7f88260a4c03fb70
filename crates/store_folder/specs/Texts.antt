-- The texts at the beginning of a segment, and of the file that tells of tables; and names with numbers.
use Rattle.std.specs.Prelude.{◌≡◌, ◌<◌, ◌^◌, ℕ, List, ◌∷◌, ◌++◌, [], codes, decimal}
use Rattle.journal.specs.Groups.{block}
use Rattle.ssb_journal.specs.Seals.{sealed}
use Rattle.ssb_text.specs.TextLines.{HasNoLineEnd}

-- a line: a word, a bar and a value
abbrev pub line : List ℕ → List ℕ → List ℕ
line word value = word ++ 124 ∷ (value ++ 10 ∷ [])

-- the head of a segment: how many commits come before it, which store it is of, how many bytes the one before it has
abbrev pub head_text : ℕ → List ℕ → ℕ → List ℕ
head_text after store before =
    codes "ssb_live journal 3\n"
    ++ (line (codes "after") (decimal after) ++ (line (codes "of") store ++ line (codes "before") (decimal before)))

-- it as the first group of a file, behind an open gate
abbrev pub head_block : ℕ → List ℕ → ℕ → List ℕ
head_block after store before = block (sealed (head_text after store before))

-- the numbers fit 64 bits, and the word for the store is one line
pub record IsHead (after : ℕ) (store : List ℕ) (before : ℕ) : Type 0 where
  pub after_fits : after < 2 ^ 64
  pub before_fits : before < 2 ^ 64
  pub one_line : HasNoLineEnd store

-- bytes begin with others
abbrev pub BeginsWith : List ℕ → List ℕ → Type 0
BeginsWith bytes front = (rest : List ℕ) × (bytes ≡ front ++ rest)

-- what tells of tables: after how many commits they are, of which store, and the lines of a journal's head over them
abbrev pub tables_text : ℕ → List ℕ → List ℕ → List ℕ
tables_text after store lines =
    codes "ssb_live tables 1\n" ++ (line (codes "after") (decimal after) ++ (line (codes "of") store ++ lines))

-- a name: a beginning, and a number as digits write it
abbrev pub name_of : List ℕ → ℕ → List ℕ
name_of begin number = begin ++ decimal number

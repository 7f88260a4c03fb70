-- Columns of cells that stand below one another, numbers to the right.
use Rattle.std.specs.Prelude.{ℕ, ◌-◌, max, Bool, false, List, [], ◌∷◌, ◌++◌, Option, Some, None, replicate, chars}
use Rattle.std.specs.Prelude.{codes, if◌then◌else◌}
use Rattle.unicode_width.specs.Width.{str_width}
use Rattle.ssb_text.specs.Numbers.{line_feed}
use Rattle.ssb_formats.specs.declared.alignment.Alignment.{Alignment}

-- the columns of a terminal that a text takes
abbrev pub width_of : List ℕ → ℕ
width_of text = str_width false (chars text)

-- a column in which no cell stands yet
abbrev pub narrow : Bool → Alignment
narrow is_number = record { width = 0; is_number = is_number }

-- a column that is wide enough for a cell too, where there is one
abbrev pub wider : Alignment → Option (List ℕ) → Alignment
wider alignment None = alignment
wider alignment (Some cell) =
    record { width = max alignment.width (width_of cell); is_number = alignment.is_number }

-- columns that are wide enough for the cells of this line too, each for the cell in its place
abbrev pub widened : List Alignment → List (List ℕ) → List Alignment
widened [] cells = []
widened (alignment ∷ alignments) [] = wider alignment None ∷ widened alignments []
widened (alignment ∷ alignments) (cell ∷ cells) = wider alignment (Some cell) ∷ widened alignments cells

-- the spaces that a cell leaves of its column
abbrev pub spaces : Alignment → List ℕ → List ℕ
spaces alignment cell = replicate (alignment.width - width_of cell) 32

-- they stand before a number, and behind a text
abbrev pub before : Alignment → List ℕ → List ℕ
before alignment cell = if alignment.is_number then spaces alignment cell else []

abbrev pub behind : Alignment → List ℕ → List ℕ
behind alignment cell = if alignment.is_number then [] else spaces alignment cell

-- cells in their columns, two spaces between one and the next, and none behind the last
abbrev pub aligned_cells : List Alignment → List (List ℕ) → List ℕ
aligned_cells [] cells = []
aligned_cells (alignment ∷ alignments) [] = []
aligned_cells (alignment ∷ alignments) (cell ∷ []) = before alignment cell ++ cell
aligned_cells (alignment ∷ alignments) (cell ∷ next ∷ cells) =
    before alignment cell ++ cell ++ behind alignment cell ++ codes "  " ++ aligned_cells alignments (next ∷ cells)

-- a line of them
abbrev pub aligned_line : List Alignment → List (List ℕ) → List ℕ
aligned_line alignments cells = aligned_cells alignments cells ++ line_feed

-- An answer as a table of Markdown.
use Rattle.std.specs.Prelude.{ℕ, ◌==◌, ◌||◌, Bool, List, [], ◌∷◌, ◌++◌, codes, flat_map, if◌then◌else◌}
use Rattle.ssb_questions.specs.declared.plan.Plan.{Plan}
use Rattle.ssb_questions.specs.declared.query.Query.{Query}
use Rattle.ssb_answers.specs.declared.answer.ResultRow.{ResultRow}
use Rattle.ssb_report.specs.AnswerText.{columns_of}
use Rattle.ssb_text.specs.Numbers.{line_feed}
use Rattle.ssb_formats.specs.Cells.{heads_of, are_numbers}

-- a byte of a cell: a bar and a backslash stand behind a backslash
abbrev pub byte_text : ℕ → List ℕ
byte_text byte = if (byte == 124) || (byte == 92) then 92 ∷ byte ∷ [] else byte ∷ []

-- a cell with a space on each side, and the bar behind it
abbrev pub cell_text : List ℕ → List ℕ
cell_text cell = 32 ∷ (flat_map byte_text cell ++ codes " |")

-- a line of cells
abbrev pub line_text : List (List ℕ) → List ℕ
line_text cells = 124 ∷ (flat_map cell_text cells ++ line_feed)

-- the cell under a head, which says that numbers stand to the right
abbrev pub rule_cell : Bool → List ℕ
rule_cell is_number = if is_number then codes " ---: |" else codes " --- |"

abbrev pub rule_text : List Bool → List ℕ
rule_text numbers = 124 ∷ (flat_map rule_cell numbers ++ line_feed)

-- the heads, the line under them, and a line for each row
abbrev pub markdown_text : Query → Plan → List ResultRow → List ℕ
markdown_text query plan rows =
    line_text (heads_of query plan) ++ rule_text (are_numbers query plan)
    ++ flat_map (λ row. line_text (columns_of query row)) rows

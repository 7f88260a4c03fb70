-- An answer as a table of a page of HTML, with a bar beside each sum.
use Rattle.std.specs.Prelude.{ℕ, ℤ, pos, ◌==◌, Bool, true, false, List, [], ◌∷◌, ◌++◌, codes, decimal, flat_map, int_lt}
use Rattle.std.specs.Prelude.{Option, Some, None, length, if◌then◌else◌}
use Rattle.ssb_answers.specs.declared.answer.ResultRow.{ResultRow}
use Rattle.ssb_answers.specs.declared.answer.Unserved.{Unserved}
use Rattle.ssb_formats.specs.BarsText.{bar_length, greatest_of, size_of}
use Rattle.ssb_formats.specs.Cells.{heads_of, are_numbers}
use Rattle.ssb_formats.specs.JsonText.{cause_name}
use Rattle.ssb_formats.specs.Markup.{markup}
use Rattle.ssb_formats.specs.Title.{title_text}
use Rattle.ssb_formats.specs.declared.bar.Scale.{Scale}
use Rattle.ssb_formats.specs.declared.markup.Markup.TheVariants.{LineOpen, LineClose, TableOpen, TableClose}
use Rattle.ssb_formats.specs.declared.markup.Markup.TheVariants.{HeadsOpen, HeadsClose, RowOpen, RowClose}
use Rattle.ssb_formats.specs.declared.markup.Markup.TheVariants.{BarOpen, BarWidth, BarClose}
use Rattle.ssb_questions.specs.Query.{name_of}
use Rattle.ssb_questions.specs.declared.plan.Plan.{Plan}
use Rattle.ssb_questions.specs.declared.query.Query.{Query}
use Rattle.ssb_report.specs.AnswerText.{columns_of}

-- a byte of a text: what HTML could read as markup is written by its name
abbrev pub escaped_byte : ℕ → List ℕ
escaped_byte byte =
    if byte == 38 then codes "&amp;" else if byte == 60 then codes "&lt;" else if byte == 62 then codes "&gt;"
    else byte ∷ []

abbrev pub escaped : List ℕ → List ℕ
escaped text = flat_map escaped_byte text

-- cells of a line, each between tags that say whether it is a number
abbrev pub cell_open : Bool → List ℕ
cell_open true = codes "<td class=\"n\">"
cell_open false = codes "<td>"

abbrev pub cell_html : Bool → List ℕ → List ℕ
cell_html is_number cell = cell_open is_number ++ escaped cell ++ codes "</td>"

abbrev pub cells_html : List Bool → List (List ℕ) → List ℕ
cells_html [] cells = []
cells_html (is_number ∷ numbers) [] = []
cells_html (is_number ∷ numbers) (cell ∷ cells) = cell_html is_number cell ++ cells_html numbers cells

-- the bar of a sum, in hundredths of the longest; that of a negative sum has a class of its own
abbrev pub bar_class : Option ℤ → List ℕ
bar_class None = codes "p"
bar_class (Some sum) = if int_lt sum (pos 0) then codes "m" else codes "p"

abbrev pub hundredths : List ResultRow → Scale
hundredths rows = record { room = 100; greatest = greatest_of rows }

abbrev pub bar_html : Scale → Option ℤ → List ℕ
bar_html scale sum =
    markup BarOpen ++ bar_class sum ++ markup BarWidth ++ decimal (bar_length scale (size_of sum)) ++ markup BarClose

-- a line of heads, and one of a row
abbrev pub head_html : List Bool → List (List ℕ) → List ℕ
head_html numbers heads = markup HeadsOpen ++ cells_html numbers heads ++ markup HeadsClose

abbrev pub row_html : List Bool → Query → Scale → ResultRow → List ℕ
row_html numbers query scale row =
    markup RowOpen ++ cells_html numbers (columns_of query row) ++ bar_html scale row.sum ++ markup RowClose

abbrev pub table_html : List Bool → Query → Plan → List ResultRow → List ℕ
table_html numbers query plan rows =
    markup TableOpen ++ head_html numbers (heads_of query plan)
    ++ flat_map (row_html numbers query (hundredths rows)) rows ++ markup TableClose

-- the line above the rows, and the table
abbrev pub html_text : Query → Plan → ℕ → List ResultRow → List ℕ
html_text query plan at rows =
    markup LineOpen ++ title_text query at (length rows) ++ markup LineClose
    ++ table_html (are_numbers query plan) query plan rows

-- an answer without rows
abbrev pub unserved_html : Query → Unserved → List ℕ
unserved_html query cause =
    markup LineOpen ++ name_of query ++ codes ": no rows, " ++ cause_name cause ++ markup LineClose

-- what stands above an answer that has a title
abbrev pub heading_html : List ℕ → List ℕ
heading_html title = codes "<h2>" ++ escaped title ++ codes "</h2>\n"

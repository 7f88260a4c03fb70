-- The rows of a statement as a table of a page of HTML, with a bar beside each row.
use Rattle.std.specs.Prelude.{ℕ, Bool, List, ◌++◌, flat_map, length}
use Rattle.ssb_statements.specs.declared.cell.StatementCell.{StatementCell}
use Rattle.ssb_formats.specs.HtmlText.{bar_html, cells_html, head_html}
use Rattle.ssb_formats.specs.Markup.{markup}
use Rattle.ssb_formats.specs.StatementBars.{drawn_of, greatest_of}
use Rattle.ssb_report.specs.StatementText.{texts_of}
use Rattle.ssb_formats.specs.StatementCells.{title_text}
use Rattle.ssb_formats.specs.declared.bar.Scale.{Scale}
use Rattle.ssb_formats.specs.declared.markup.Markup.TheVariants.{LineOpen, LineClose, TableOpen, TableClose}
use Rattle.ssb_formats.specs.declared.markup.Markup.TheVariants.{RowOpen, RowClose}

-- bars are as long as hundredths of the longest
abbrev pub hundredths : List (List StatementCell) → Scale
hundredths rows = record { room = 100; greatest = greatest_of rows }

abbrev pub row_html : List Bool → Scale → List StatementCell → List ℕ
row_html are_numbers scale row =
    markup RowOpen ++ cells_html are_numbers (texts_of row) ++ bar_html scale (drawn_of row) ++ markup RowClose

abbrev pub table_html : List (List ℕ) → List Bool → List (List StatementCell) → List ℕ
table_html heads are_numbers rows =
    markup TableOpen ++ head_html are_numbers heads ++ flat_map (row_html are_numbers (hundredths rows)) rows
    ++ markup TableClose

-- the line above the rows, and the table
abbrev pub html_text : List (List ℕ) → List Bool → ℕ → List (List StatementCell) → List ℕ
html_text heads are_numbers at rows =
    markup LineOpen ++ title_text at (length rows) ++ markup LineClose ++ table_html heads are_numbers rows

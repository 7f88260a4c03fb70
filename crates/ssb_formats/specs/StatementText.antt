-- The rows of a statement, in the formats.
use Rattle.std.specs.Prelude.{ℕ, ℤ, Bool, List, ◌++◌, map, flat_map, length, codes, Option, Some, None}
use Rattle.serde_json.specs.Data.{Data, Members, null, number, unsigned, member, no_members}
use Rattle.ssb_statements.specs.declared.cell.StatementCell.{StatementCell}
use Rattle.ssb_statements.specs.declared.cell.StatementCell.TheVariants.{Plain, Number, Decimal}
use Rattle.ssb_report.specs.StatementText.{decimal_text, report_text, texts_of}
use Rattle.ssb_formats.specs.Alignment.{aligned_line}
use Rattle.ssb_formats.specs.CsvText.{csv_records}
use Rattle.ssb_formats.specs.JsonText.{list_data, object_line, sum_data, text_data, value_data}
use Rattle.ssb_formats.specs.MarkdownText.{line_text, rule_text as markdown_rule}
use Rattle.ssb_formats.specs.TableText.{rule_text}
use Rattle.ssb_formats.specs.StatementBars.{bars_text}
use Rattle.ssb_formats.specs.StatementCells.{alignments, title_text}
use Rattle.ssb_formats.specs.StatementHtml.{html_text}
use Rattle.ssb_formats.specs.declared.alignment.Alignment.{Alignment}
use Rattle.ssb_formats.specs.declared.format.Format.{Format}
use Rattle.ssb_formats.specs.declared.format.Format.TheVariants.{Report, Csv, Json, Markdown, Table, Bars, Html}

abbrev pub csv_text : List (List ℕ) → List (List StatementCell) → List ℕ
csv_text heads rows = csv_records heads (map texts_of rows)

-- the heads, the line under them, and a line for each row
abbrev pub markdown_text : List (List ℕ) → List Bool → List (List StatementCell) → List ℕ
markdown_text heads are_numbers rows =
    line_text heads ++ markdown_rule are_numbers ++ flat_map (λ row. line_text (texts_of row)) rows

abbrev pub grid_text : List Alignment → List (List ℕ) → List (List StatementCell) → List ℕ
grid_text all heads rows =
    aligned_line all heads ++ rule_text all ++ flat_map (λ row. aligned_line all (texts_of row)) rows

unfoldable pub table_text : List (List ℕ) → List Bool → ℕ → List (List StatementCell) → List ℕ
table_text heads are_numbers at rows =
    title_text at (length rows) ++ grid_text (alignments heads are_numbers rows) heads rows

-- a value as a text or a number, a sum as a number, an average as a text of its digits; null where there is none
abbrev pub average_data : Option ℤ → Data
average_data None = null
average_data (Some n) = text_data (decimal_text n)

abbrev pub cell_data : StatementCell → Data
cell_data (Plain None) = null
cell_data (Plain (Some value)) = value_data value
cell_data (Number n) = sum_data n
cell_data (Decimal n) = average_data n

abbrev pub row_data : List StatementCell → Data
row_data row = list_data (map cell_data row)

abbrev pub rows_data : List (List StatementCell) → Data
rows_data rows = list_data (map row_data rows)

abbrev pub heads_data : List (List ℕ) → Data
heads_data heads = list_data (map text_data heads)

-- the rows after so many commits, with the heads of their columns
abbrev pub members : ℕ → Data → Data → Members
members at columns rows =
    member (codes "at") (number (unsigned at))
    (member (codes "columns") columns
    (member (codes "query") (text_data (codes "sql"))
    (member (codes "rows") rows no_members)))

abbrev pub json_text : List (List ℕ) → ℕ → List (List StatementCell) → List ℕ
json_text heads at rows = object_line (members at (heads_data heads) (rows_data rows))

-- the rows in a format
abbrev pub shown : Format → List (List ℕ) → List Bool → ℕ → List (List StatementCell) → List ℕ
shown Report heads are_numbers at rows = report_text at rows
shown Csv heads are_numbers at rows = csv_text heads rows
shown Json heads are_numbers at rows = json_text heads at rows
shown Markdown heads are_numbers at rows = markdown_text heads are_numbers rows
shown Table heads are_numbers at rows = table_text heads are_numbers at rows
shown (Bars width) heads are_numbers at rows = bars_text width heads are_numbers at rows
shown Html heads are_numbers at rows = html_text heads are_numbers at rows

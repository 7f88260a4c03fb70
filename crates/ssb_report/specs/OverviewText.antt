-- The report of what a client looks up beside its answers.
use Rattle.std.specs.Prelude.{ℕ, ◌==◌, Bool, List, [], ◌∷◌, ◌++◌, codes, decimal, flat_map, length, if◌then◌else◌}
use Rattle.std.specs.List.{concat}
use Rattle.ssb_report.specs.StatementText.{report_line}
use Rattle.ssb_report.specs.declared.overview.Overview.{Overview}
use Rattle.ssb_statements.specs.declared.cell.StatementCell.{StatementCell}
use Rattle.ssb_text.specs.Numbers.{line_feed}

-- rows under heads: what they are of, which of the columns have numbers, all rows or the first of them, and how many
-- there are in all
pub record OverviewRecord : Type 0 where
  pub name : List ℕ
  pub heads : List (List ℕ)
  pub are_numbers : List Bool
  pub rows : List (List StatementCell)
  pub count : ℕ

abbrev pub overview_of : Overview → OverviewRecord
overview_of overview = record {
  name = overview.name;
  heads = overview.heads.items;
  are_numbers = overview.are_numbers.items;
  rows = overview.rows.items;
  count = overview.count;
}

-- how many rows are shown; and of how many, where there are others
abbrev pub counted : ℕ → ℕ → List ℕ
counted shown count =
    if shown == count then decimal count else concat (decimal shown ∷ codes " of " ∷ decimal count ∷ [])

-- the line before the rows, without its end
abbrev pub head_text : List ℕ → ℕ → ℕ → List ℕ
head_text name shown count = concat (name ∷ codes " rows " ∷ []) ++ counted shown count

-- the end of that line, and a line for each row, its cells joined by |
abbrev pub below_text : List (List StatementCell) → List ℕ
below_text rows = line_feed ++ flat_map report_line rows

-- the report
abbrev pub overview_text : OverviewRecord → List ℕ
overview_text overview =
    head_text overview.name (length overview.rows) overview.count ++ below_text overview.rows

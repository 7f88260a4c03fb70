-- The columns of a statement, and the line above them.
use Rattle.std.specs.Prelude.{ℕ, Bool, List, ◌++◌, map, fold, codes}
use Rattle.ssb_report.specs.StatementText.{texts_of}
use Rattle.ssb_statements.specs.declared.cell.StatementCell.{StatementCell}
use Rattle.ssb_formats.specs.Alignment.{narrow, widened}
use Rattle.ssb_formats.specs.Title.{commit_text, count_text}
use Rattle.ssb_formats.specs.declared.alignment.Alignment.{Alignment}

-- columns as wide as their heads, and as the cells of each row
abbrev pub alignments : List (List ℕ) → List Bool → List (List StatementCell) → List Alignment
alignments heads are_numbers rows =
    fold (λ all row. widened all (texts_of row)) (widened (map narrow are_numbers) heads) rows

-- the line above the heads: how many rows there are, and after how many commits
abbrev pub title_text : ℕ → ℕ → List ℕ
title_text at count = codes "sql: " ++ count_text count ++ commit_text at

-- An answer as a table whose columns stand below one another.
use Rattle.std.specs.Prelude.{ℕ, List, [], ◌∷◌, ◌++◌, map, fold, flat_map, length, replicate, codes}
use Rattle.ssb_questions.specs.declared.plan.Plan.{Plan}
use Rattle.ssb_questions.specs.declared.query.Query.{Query}
use Rattle.ssb_answers.specs.declared.answer.ResultRow.{ResultRow}
use Rattle.ssb_report.specs.AnswerText.{columns_of}
use Rattle.ssb_text.specs.Numbers.{line_feed}
use Rattle.ssb_formats.specs.Alignment.{aligned_line, narrow, widened}
use Rattle.ssb_formats.specs.Cells.{heads_of, are_numbers}
use Rattle.ssb_formats.specs.Title.{title_text}
use Rattle.ssb_formats.specs.declared.alignment.Alignment.{Alignment}

-- the columns of a table: as wide as their heads, and as the cells of each row
abbrev pub table_alignments : Query → Plan → List ResultRow → List Alignment
table_alignments query plan rows =
    fold (λ alignments row. widened alignments (columns_of query row))
    (widened (map narrow (are_numbers query plan)) (heads_of query plan)) rows

-- below each head a line as long as its column is wide
abbrev pub dashes : List Alignment → List ℕ
dashes [] = []
dashes (alignment ∷ []) = replicate alignment.width 45
dashes (alignment ∷ next ∷ alignments) =
    replicate alignment.width 45 ++ codes "  " ++ dashes (next ∷ alignments)

abbrev pub rule_text : List Alignment → List ℕ
rule_text alignments = dashes alignments ++ line_feed

-- the heads, the line below them, and a line for each row
abbrev pub grid_text : List Alignment → Query → Plan → List ResultRow → List ℕ
grid_text alignments query plan rows =
    aligned_line alignments (heads_of query plan) ++ rule_text alignments
    ++ flat_map (λ row. aligned_line alignments (columns_of query row)) rows

-- the title, and that
unfoldable pub table_text : Query → Plan → ℕ → List ResultRow → List ℕ
table_text query plan at rows =
    title_text query at (length rows) ++ grid_text (table_alignments query plan rows) query plan rows

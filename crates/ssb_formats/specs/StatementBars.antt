-- The rows of a statement as bars: behind the columns of each a bar, as long as its first aggregate is great.
use Rattle.std.specs.Prelude.{ℕ, ℤ, ◌^◌, ◌-◌, ◌==◌, min, max, Bool, false, List, [], ◌∷◌, ◌++◌, fold, flat_map}
use Rattle.std.specs.Prelude.{length, replicate, unsigned_abs, Option, None, option_map, if◌then◌else◌}
use Rattle.ssb_statements.specs.Statement.{with_sign_of}
use Rattle.ssb_statements.specs.declared.cell.StatementCell.{StatementCell}
use Rattle.ssb_statements.specs.declared.cell.StatementCell.TheVariants.{Plain, Number, Decimal}
use Rattle.ssb_text.specs.Numbers.{line_feed}
use Rattle.ssb_formats.specs.Alignment.{aligned_cells, aligned_line, narrow}
use Rattle.ssb_formats.specs.BarsText.{bar_length, mark_of, room_beside, size_of}
use Rattle.ssb_report.specs.StatementText.{texts_of}
use Rattle.ssb_formats.specs.StatementCells.{alignments, title_text}
use Rattle.ssb_formats.specs.declared.alignment.Alignment.{Alignment}
use Rattle.ssb_formats.specs.declared.bar.Scale.{Scale}

-- how great an average is in ten-thousandths, as far as 63 bits go
abbrev pub bar_size : ℤ → ℤ
bar_size n = with_sign_of n (min (unsigned_abs n) (2 ^ 63 - 1))

-- the first aggregate of a row: a sum or a number of lines, or an average in ten-thousandths
abbrev pub drawn_of : List StatementCell → Option ℤ
drawn_of [] = None
drawn_of (Plain value ∷ cells) = drawn_of cells
drawn_of (Number n ∷ cells) = n
drawn_of (Decimal n ∷ cells) = option_map bar_size n

-- the greatest of the rows has a bar that takes all the room
abbrev pub greatest_of : List (List StatementCell) → ℕ
greatest_of rows = fold (λ greatest row. max greatest (size_of (drawn_of row))) 0 rows

abbrev pub scale_of : ℕ → List Alignment → List (List StatementCell) → Scale
scale_of width all rows = record { room = room_beside width all; greatest = greatest_of rows }

-- the columns with that of the bars
abbrev pub with_bars : List Alignment → List Alignment
with_bars all = all ++ narrow false ∷ []

-- cells in their columns, and a bar of so many marks behind two spaces; nothing where it has none
abbrev pub drawn : List Alignment → List (List ℕ) → ℕ → ℕ → List ℕ
drawn all cells mark length =
    if length == 0 then aligned_cells all cells
    else (aligned_cells (with_bars all) (cells ++ [] ∷ []) ++ replicate length mark)

abbrev pub bar_line : List Alignment → Scale → List StatementCell → List ℕ
bar_line all scale row =
    drawn all (texts_of row) (mark_of (drawn_of row)) (bar_length scale (size_of (drawn_of row))) ++ line_feed

abbrev pub chart_text : List Alignment → Scale → List (List ℕ) → List (List StatementCell) → List ℕ
chart_text all scale heads rows = aligned_line all heads ++ flat_map (bar_line all scale) rows

-- the line above the heads, the heads, and a line for each row
unfoldable pub bars_text : ℕ → List (List ℕ) → List Bool → ℕ → List (List StatementCell) → List ℕ
bars_text width heads are_numbers at rows =
    title_text at (length rows)
    ++ chart_text (alignments heads are_numbers rows) (scale_of width (alignments heads are_numbers rows) rows) heads rows

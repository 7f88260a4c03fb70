-- An answer as bars: behind the group columns and the sum of each row a bar, as long as the sum is great.
use Rattle.std.specs.Prelude.{ℕ, ℤ, pos, ◌-◌, ◌*◌, ◌/◌, ◌==◌, min, max, true, List, [], ◌∷◌, ◌++◌, map, fold}
use Rattle.std.specs.Prelude.{flat_map, length, replicate, codes, Option, Some, None, unsigned_abs, int_lt}
use Rattle.std.specs.Prelude.{if◌then◌else◌}
use Rattle.ssb_schema.specs.Columns.{column_name}
use Rattle.ssb_questions.specs.Clause.{measure_name}
use Rattle.ssb_questions.specs.declared.plan.Plan.{Plan}
use Rattle.ssb_questions.specs.declared.query.Query.{Query}
use Rattle.ssb_answers.specs.declared.answer.ResultRow.{ResultRow}
use Rattle.ssb_report.specs.AnswerText.{value_text}
use Rattle.ssb_text.specs.Numbers.{line_feed, sum_text}
use Rattle.ssb_formats.specs.Alignment.{aligned_cells, aligned_line, narrow, widened}
use Rattle.ssb_formats.specs.Cells.{takes_numbers}
use Rattle.ssb_formats.specs.Title.{title_text}
use Rattle.ssb_formats.specs.declared.alignment.Alignment.{Alignment}
use Rattle.ssb_formats.specs.declared.bar.Scale.{Scale}

-- the labels of a row: its group columns, and behind them its sum
abbrev pub labels_of : ResultRow → List (List ℕ)
labels_of row = map value_text row.groups ++ sum_text row.sum ∷ []

-- the heads of the group columns, and all heads; that of the sum stands over the bars too
abbrev pub group_heads : Plan → List (List ℕ)
group_heads plan = map column_name plan.groups

abbrev pub label_heads : Plan → List (List ℕ)
label_heads plan = group_heads plan ++ measure_name plan.measure ∷ []

-- the columns of the labels: as wide as the heads of the group columns, and as the labels of each row
abbrev pub label_alignments : Plan → List ResultRow → List Alignment
label_alignments plan rows =
    fold (λ alignments row. widened alignments (labels_of row))
    (widened (map narrow (map takes_numbers plan.groups ++ true ∷ [])) (group_heads plan)) rows

-- what these columns, and two spaces behind each, leave of a width
abbrev pub room_beside : ℕ → List Alignment → ℕ
room_beside width alignments = fold (λ room alignment. room - alignment.width - 2) width alignments

-- how great a sum is, whatever its sign
abbrev pub size_of : Option ℤ → ℕ
size_of None = 0
size_of (Some sum) = unsigned_abs sum

-- how great the greatest sum of the rows is
abbrev pub greatest_of : List ResultRow → ℕ
greatest_of rows = fold (λ greatest row. max greatest (size_of row.sum)) 0 rows

-- the greatest sum has a bar that takes all the room
abbrev pub scale_of : ℕ → List Alignment → List ResultRow → Scale
scale_of width alignments rows = record { room = room_beside width alignments; greatest = greatest_of rows }

-- the length of a bar: that part of the room which the sum is of the greatest, rounded down
abbrev pub bar_length : Scale → ℕ → ℕ
bar_length scale size =
    if scale.greatest == 0 then 0 else min scale.room ((size * scale.room) / scale.greatest)

-- the bar of a negative sum is drawn with -, that of any other with #
abbrev pub mark_of : Option ℤ → ℕ
mark_of None = 35
mark_of (Some sum) = if int_lt sum (pos 0) then 45 else 35

-- a bar behind two spaces; nothing where it has no length
abbrev pub drawn : ℕ → ℕ → List ℕ
drawn mark length = if length == 0 then [] else codes "  " ++ replicate length mark

abbrev pub bar_text : Scale → Option ℤ → List ℕ
bar_text scale sum = drawn (mark_of sum) (bar_length scale (size_of sum))

-- a row: its labels and its bar
abbrev pub bar_line : List Alignment → Scale → ResultRow → List ℕ
bar_line alignments scale row = aligned_cells alignments (labels_of row) ++ bar_text scale row.sum ++ line_feed

-- the heads, and a line for each row
abbrev pub chart_text : List Alignment → Scale → Plan → List ResultRow → List ℕ
chart_text alignments scale plan rows =
    aligned_line alignments (label_heads plan) ++ flat_map (bar_line alignments scale) rows

-- the title, and that
unfoldable pub bars_text : ℕ → Query → Plan → ℕ → List ResultRow → List ℕ
bars_text width query plan at rows =
    title_text query at (length rows)
    ++ chart_text (label_alignments plan rows) (scale_of width (label_alignments plan rows) rows) plan rows

-- What a client looks up beside its answers, in each of a session's formats.
use Rattle.std.specs.Prelude.{ℕ, ◌==◌, List, [], ◌++◌, codes, decimal, length, if◌then◌else◌}
use Rattle.serde_json.specs.Data.{Members, number, unsigned, member, no_members}
use Rattle.ssb_report.specs.OverviewText.{OverviewRecord, overview_text}
use Rattle.ssb_text.specs.Numbers.{line_feed}
use Rattle.ssb_formats.specs.JsonText.{object_line, text_data}
use Rattle.ssb_formats.specs.StatementCells.{alignments}
use Rattle.ssb_formats.specs.StatementText.{csv_text, grid_text, heads_data, markdown_text, rows_data}
use Rattle.ssb_formats.specs.Title.{count_text}
use Rattle.ssb_formats.specs.declared.reply_format.ReplyFormat.{ReplyFormat}
use Rattle.ssb_formats.specs.declared.reply_format.ReplyFormat.TheVariants.{Report, Table, Csv, Json, Markdown, Bars}

-- how many rows are shown, where there are others
abbrev pub part_text : ℕ → ℕ → List ℕ
part_text shown count = if shown == count then [] else decimal shown ++ codes " of "

-- the line above the heads
abbrev pub title_text : List ℕ → ℕ → ℕ → List ℕ
title_text name shown count = name ++ codes ": " ++ part_text shown count ++ count_text count ++ line_feed

-- rows below one another, under their heads
abbrev pub table_text : OverviewRecord → List ℕ
table_text overview =
    title_text overview.name (length overview.rows) overview.count
    ++ grid_text (alignments overview.heads overview.are_numbers overview.rows) overview.heads overview.rows

-- the members of its object: the heads, what the rows are of, how many there are, and those that are shown
abbrev pub overview_members : OverviewRecord → Members
overview_members overview =
    member (codes "columns") (heads_data overview.heads)
    (member (codes "list") (text_data overview.name)
    (member (codes "of") (number (unsigned overview.count))
    (member (codes "rows") (rows_data overview.rows) no_members)))

-- it has nothing that bars could show
abbrev pub overview_shown : ReplyFormat → OverviewRecord → List ℕ
overview_shown Report overview = overview_text overview
overview_shown Json overview = object_line (overview_members overview)
overview_shown Table overview = table_text overview ++ line_feed
overview_shown Csv overview = csv_text overview.heads overview.rows ++ line_feed
overview_shown Markdown overview = markdown_text overview.heads overview.are_numbers overview.rows ++ line_feed
overview_shown Bars overview = table_text overview ++ line_feed

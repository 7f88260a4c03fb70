-- Reports, each under a title.
use Rattle.std.specs.Prelude.{ℕ, ◌==◌, ◌||◌, Bool, List, [], ◌∷◌, ◌++◌, codes, flat_map, if◌then◌else◌}
use Rattle.csv.specs.Writing.{row_text}
use Rattle.ssb_text.specs.Numbers.{line_feed}
use Rattle.ssb_formats.specs.CsvText.{csv_setup}
use Rattle.ssb_formats.specs.Formats.{opening, parting}
use Rattle.ssb_formats.specs.HtmlText.{heading_html}
use Rattle.ssb_formats.specs.Reports.{report_shown, titled_report_json}
use Rattle.ssb_formats.specs.declared.format.Format.{Format}
use Rattle.ssb_formats.specs.declared.reports.Reported.{Reported}
use Rattle.ssb_formats.specs.declared.format.Format.TheVariants.{Report, Csv, Json, Markdown, Table, Bars, Html}

-- what Markdown may read as more than itself: # & * < > [ \ ] _ `
abbrev pub is_markup : ℕ → Bool
is_markup byte = (byte == 35) || (byte == 38) || (byte == 42) || (byte == 60) || (byte == 62) || (byte == 91)
    || (byte == 92) || (byte == 93) || (byte == 95) || (byte == 96)

-- it stands behind a backslash
abbrev pub title_byte : ℕ → List ℕ
title_byte byte = if is_markup byte then 92 ∷ byte ∷ [] else byte ∷ []

-- a heading of the second rank, and the empty line below it
abbrev pub markdown_heading : List ℕ → List ℕ
markdown_heading title = codes "## " ++ flat_map title_byte title ++ codes "\n\n"

-- what stands above a report: a line of the title; in CSV a record of it alone; in JSON nothing
abbrev pub heading : Format → List ℕ → List ℕ
heading Report title = title ++ line_feed
heading Csv title = row_text csv_setup (title ∷ [])
heading Json title = []
heading Markdown title = markdown_heading title
heading Table title = title ++ line_feed
heading (Bars width) title = title ++ line_feed
heading Html title = heading_html title

-- the report below it; in JSON its object has the title
abbrev pub body : Format → List ℕ → Reported → List ℕ
body Report title report = report_shown Report report
body Csv title report = report_shown Csv report
body Json title report = titled_report_json title report
body Markdown title report = report_shown Markdown report
body Table title report = report_shown Table report
body (Bars width) title report = report_shown (Bars width) report
body Html title report = report_shown Html report

abbrev pub titled_shown : Format → List ℕ → Reported → List ℕ
titled_shown format title report = heading format title ++ body format title report

-- reports behind others, each under the title in its place
abbrev pub others_shown : Format → List (List ℕ) → List Reported → List ℕ
others_shown format [] reports = []
others_shown format (title ∷ titles) [] = []
others_shown format (title ∷ titles) (report ∷ reports) =
    parting format ++ titled_shown format title report ++ others_shown format titles reports

-- reports one after another, each under the title in its place
abbrev pub titled_reports_shown : Format → List (List ℕ) → List Reported → List ℕ
titled_reports_shown format [] reports = []
titled_reports_shown format (title ∷ titles) [] = []
titled_reports_shown format (title ∷ titles) (report ∷ reports) =
    titled_shown format title report ++ others_shown format titles reports

-- the same behind what stands before all reports
abbrev pub board_shown : Format → List (List ℕ) → List Reported → List ℕ
board_shown format titles reports = opening format ++ titled_reports_shown format titles reports

-- Reports, each an answer or the rows of a statement, in each format.
use Rattle.std.specs.Prelude.{ℕ, List, [], ◌∷◌, ◌++◌, codes, flat_map}
use Rattle.serde_json.specs.Data.{Members, put}
use Rattle.ssb_formats.specs.Formats.{opening, parting, shown}
use Rattle.ssb_formats.specs.JsonText.{object_line, text_data, titled_json}
use Rattle.ssb_formats.specs.StatementText as statement
use Rattle.ssb_formats.specs.declared.format.Format.{Format}
use Rattle.ssb_formats.specs.declared.reports.Reported.{Reported}
use Rattle.ssb_formats.specs.declared.reports.Reported.TheVariants.{Answered, Listed}
use Rattle.ssb_report.specs.StatementText.{listing_text}
use Rattle.ssb_statements.specs.Listing.{ListingRecord, Rows, RowsRecord, Unserved, rows_of}

-- the rows of a statement
abbrev pub rows_shown : Format → RowsRecord → List ℕ
rows_shown format rows = statement.shown format rows.heads rows.are_numbers rows.at rows.rows

-- what is listed of a statement; where there are no rows, as the report has it
abbrev pub listing_shown : Format → ListingRecord → List ℕ
listing_shown format (Rows rows) = rows_shown format rows
listing_shown format (Unserved cause) = listing_text (Unserved cause)

abbrev pub report_shown : Format → Reported → List ℕ
report_shown format (Answered answer) = shown format answer.now
report_shown format (Listed rows) = rows_shown format (rows_of rows)

-- a report as an object of JSON that has a title
abbrev pub rows_members : RowsRecord → Members
rows_members rows = statement.members rows.at (statement.heads_data rows.heads) (statement.rows_data rows.rows)

abbrev pub titled_rows_json : List ℕ → RowsRecord → List ℕ
titled_rows_json title rows = object_line (put (codes "title") (text_data title) (rows_members rows))

abbrev pub titled_report_json : List ℕ → Reported → List ℕ
titled_report_json title (Answered answer) = titled_json title answer.now
titled_report_json title (Listed rows) = titled_rows_json title (rows_of rows)

-- a report behind another
abbrev pub next_report_shown : Format → Reported → List ℕ
next_report_shown format report = parting format ++ report_shown format report

-- reports one after another, behind what stands before all
abbrev pub reports_parted : Format → List Reported → List ℕ
reports_parted format [] = []
reports_parted format (first ∷ others) = report_shown format first ++ flat_map (next_report_shown format) others

abbrev pub reports_shown : Format → List Reported → List ℕ
reports_shown format reports = opening format ++ reports_parted format reports

-- The formats of a live session.
use Rattle.std.specs.Prelude.{ℕ, List, [], ◌∷◌, Option, codes, find, nat_eq}
use Rattle.std.specs.Cmp.Lexicographic.{pointwise}
use Rattle.ssb_formats.specs.declared.format.Format.{Format}
use Rattle.ssb_formats.specs.declared.format.Format.TheVariants as answers
use Rattle.ssb_formats.specs.declared.reply_format.ReplyFormat.{ReplyFormat}
use Rattle.ssb_formats.specs.declared.reply_format.ReplyFormat.TheVariants.{Report, Table, Csv, Json, Markdown, Bars}

abbrev pub format_name : ReplyFormat → List ℕ
format_name Report = codes "report"
format_name Table = codes "table"
format_name Csv = codes "csv"
format_name Json = codes "json"
format_name Markdown = codes "markdown"
format_name Bars = codes "bars"

abbrev pub reply_formats : List ReplyFormat
reply_formats = Report ∷ Table ∷ Csv ∷ Json ∷ Markdown ∷ Bars ∷ []

-- the format that bytes name, letter for letter
abbrev pub format_named : List ℕ → Option ReplyFormat
format_named bytes = find (λ format. pointwise nat_eq (format_name format) bytes) reply_formats

-- how answers are written in it; bars are 80 columns wide
abbrev pub answer_format : ReplyFormat → Format
answer_format Report = answers.Report
answer_format Table = answers.Table
answer_format Csv = answers.Csv
answer_format Json = answers.Json
answer_format Markdown = answers.Markdown
answer_format Bars = answers.Bars 80

-- Answers in each format.
use Rattle.std.specs.Prelude.{ℕ, List, [], ◌∷◌, ◌++◌, flat_map, Option, Result, MatchResult}
use Rattle.std.specs.Io.KnownBytes.{Appends}
use Rattle.ssb_questions.specs.Queries.{plan_over}
use Rattle.ssb_answers.specs.declared.answer.Answer.{Answer}
use Rattle.ssb_answers.specs.declared.answer.Answer.TheVariants.{Rows, Unserved}
use Rattle.ssb_report.specs.AnswerText.{answer_text}
use Rattle.ssb_text.specs.Numbers.{line_feed}
use Rattle.ssb_text.specs.Written.{AppendsPart}
use Rattle.ssb_formats.specs.declared.format.Format.{Format}
use Rattle.ssb_formats.specs.declared.markup.Markup.TheVariants.{Page}
use Rattle.ssb_formats.specs.declared.format.Format.TheVariants.{Report, Csv, Json, Markdown, Table, Bars, Html}
use Rattle.ssb_formats.specs.BarsText.{bars_text}
use Rattle.ssb_formats.specs.CsvText.{csv_text}
use Rattle.ssb_formats.specs.HtmlText.{html_text, unserved_html}
use Rattle.ssb_formats.specs.JsonText.{json_text}
use Rattle.ssb_formats.specs.MarkdownText.{markdown_text}
use Rattle.ssb_formats.specs.Markup.{markup}
use Rattle.ssb_formats.specs.TableText.{table_text}

-- an answer in a format; one without rows as the report has it, but for JSON and HTML
abbrev pub shown : Format → Answer → List ℕ
shown Report answer = answer_text answer
shown Json answer = json_text answer
shown Csv (Rows question at rows) = csv_text question.0 (plan_over question.0 question.1) rows
shown Csv (Unserved question cause) = answer_text (Unserved question cause)
shown Markdown (Rows question at rows) = markdown_text question.0 (plan_over question.0 question.1) rows
shown Markdown (Unserved question cause) = answer_text (Unserved question cause)
shown Table (Rows question at rows) = table_text question.0 (plan_over question.0 question.1) at rows
shown Table (Unserved question cause) = answer_text (Unserved question cause)
shown (Bars width) (Rows question at rows) = bars_text width question.0 (plan_over question.0 question.1) at rows
shown (Bars width) (Unserved question cause) = answer_text (Unserved question cause)
shown Html (Rows question at rows) = html_text question.0 (plan_over question.0 question.1) at rows
shown Html (Unserved question cause) = unserved_html question.0 cause

-- what parts an answer from the next
abbrev pub parting : Format → List ℕ
parting Report = []
parting Json = []
parting Csv = line_feed
parting Markdown = line_feed
parting Table = line_feed
parting (Bars width) = line_feed
parting Html = []

-- what stands before all answers
abbrev pub opening : Format → List ℕ
opening Report = []
opening Json = []
opening Csv = []
opening Markdown = []
opening Table = []
opening (Bars width) = []
opening Html = markup Page

-- an answer behind another
abbrev pub next_shown : Format → Answer → List ℕ
next_shown format answer = parting format ++ shown format answer

-- answers one after another
abbrev pub answers_parted : Format → List Answer → List ℕ
answers_parted format [] = []
answers_parted format (first ∷ others) = shown format first ++ flat_map (next_shown format) others

-- the same behind that beginning
abbrev pub answers_shown : Format → List Answer → List ℕ
answers_shown format answers = opening format ++ answers_parted format answers

-- known bytes grow by the text; where the result is a fault, by a part of it from its beginning on
abbrev pub Shows : {X E : Type 0} → Option (List ℕ) → Option (List ℕ) → Result X E → List ℕ → Type 0
Shows old new result text = MatchResult result (λ _. Appends old new text) (λ _. AppendsPart old new text)

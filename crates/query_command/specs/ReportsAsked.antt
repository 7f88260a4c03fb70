-- What several reports are, each an answer or the rows of a statement.
use Rattle.std.specs.Prelude.{⊤, ◌≡◌, ℕ, List, [], ◌∷◌, map}
use Rattle.ssb_base.specs.Base.{Tables}
use Rattle.ssb_questions.specs.declared.query.Query.{Query}
use Rattle.ssb_questions.specs.declared.value.Value.{Value}
use Rattle.ssb_answers.specs.declared.answer.Answer.{Answer}
use Rattle.ssb_formats.specs.Reports.{reports_shown}
use Rattle.ssb_formats.specs.Titled.{board_shown}
use Rattle.ssb_formats.specs.declared.format.Format.{Format}
use Rattle.ssb_formats.specs.declared.reports.Reported.{Reported}
use Rattle.ssb_formats.specs.declared.reports.Reported.TheVariants.{Answered, Listed}
use Rattle.ssb_statements.specs.Listing.{HasRows, rows_of}
use Rattle.query_command.specs.Reported.{opening_answer}
use Rattle.query_command.specs.declared.asking.ReportAsked.{ReportAsked}
use Rattle.query_command.specs.declared.asking.ReportAsked.TheVariants as asked

-- the questions of what is asked: one, or those of a statement
abbrev pub questions_in : ReportAsked → List (Query × List Value)
questions_in (asked.Question question) = question ∷ []
questions_in (asked.Statement statement) = statement.questions.items

-- a report is what is asked, of these answers to its questions
abbrev pub IsReported : List Answer → ℕ → ReportAsked → Reported → Type 0
IsReported answers after (asked.Question question) (Answered answer) = answers ≡ answer.now ∷ []
IsReported answers after (asked.Question question) (Listed rows) = ⊥
IsReported answers after (asked.Statement statement) (Answered answer) = ⊥
IsReported answers after (asked.Statement statement) (Listed rows) = HasRows statement answers after (rows_of rows)

-- each report is what is asked in its place, where questions are answered so
abbrev pub AreReported : (Query × List Value → Answer) → ℕ → List ReportAsked → List Reported → Type 0
AreReported answered after [] [] = ⊤
AreReported answered after [] (report ∷ reports) = ⊥
AreReported answered after (one ∷ asked) [] = ⊥
AreReported answered after (one ∷ asked) (report ∷ reports) =
    IsReported (map answered (questions_in one)) after one report × AreReported answered after asked reports

-- these are the reports that are asked, over a base that is after so many commits
abbrev pub HaveReported : Tables → ℕ → List ReportAsked → List Reported → Type 0
HaveReported base after asked reports = AreReported (opening_answer base after) after asked reports

-- the text of such reports in the format
pub record HasReportsText (format : Format) (base : Tables) (after : ℕ) (asked : List ReportAsked) (text : List ℕ)
    : Type 0 where
  pub reports : List Reported
  pub are : HaveReported base after asked reports
  pub is : text ≡ reports_shown format reports

-- the same, each report under the title in its place
pub record HasReports (format : Format) (base : Tables) (after : ℕ) (titles : List (List ℕ)) (asked : List ReportAsked)
    (text : List ℕ) : Type 0 where
  pub reports : List Reported
  pub are : HaveReported base after asked reports
  pub is : text ≡ board_shown format titles reports

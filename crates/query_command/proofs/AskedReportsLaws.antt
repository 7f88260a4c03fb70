-- From the answers to the questions of reports to these.
use Rattle.std.proofs.Common.{◌≡◌, ◌∙◌, ℕ, List, ap, subst, flat_map, map}
use Rattle.ssb_answers.specs.declared.answer.Answer.{Answer}
use Rattle.ssb_base.specs.Base.{Tables}
use Rattle.ssb_formats.specs.Reports.{reports_shown}
use Rattle.ssb_formats.specs.Titled.{board_shown}
use Rattle.ssb_formats.specs.declared.format.Format.{Format}
use Rattle.ssb_formats.specs.declared.reports.Reported.{Reported}
use Rattle.ssb_questions.specs.declared.query.Query.{Query}
use Rattle.ssb_questions.specs.declared.value.Value.{Value}
use Rattle.query_command.specs.Reported.{answers_over, opening_answer}
use Rattle.query_command.specs.ReportsAsked.{AreReported, HasReports, HasReportsText, HaveReported, questions_in}
use Rattle.query_command.specs.declared.asking.ReportAsked.{ReportAsked}

-- the reports under their titles, as they were written
pub reports_under : (format : Format) (base : Tables) (after : ℕ) (titles : List (List ℕ)) (asked : List ReportAsked)
    (written : List (List ℕ)) (looked : List ReportAsked) (answers answered : List Answer)
    (reports shown : List Reported) → written ≡ titles → looked ≡ asked → answered ≡ answers → shown ≡ reports
    → answers ≡ answers_over base after (flat_map questions_in looked)
    → ((by : Query × List Value → Answer) → answered ≡ map by (flat_map questions_in looked)
    → AreReported by after looked reports)
    → HasReports format base after titles asked (board_shown format written shown)
reports_under format base after titles asked written looked answers answered reports shown t a r s have make = record {
  reports = reports;
  are = subst (λ asked. HaveReported base after asked reports) a (make (opening_answer base after) (r ∙ have));
  is = ap (λ titles. board_shown format titles shown) t ∙ ap (board_shown format titles) s;
}

-- the same without titles
pub reports_beside : (format : Format) (base : Tables) (after : ℕ) (asked : List ReportAsked)
    (answers answered : List Answer) (reports shown : List Reported) → answered ≡ answers → shown ≡ reports
    → answers ≡ answers_over base after (flat_map questions_in asked)
    → ((by : Query × List Value → Answer) → answered ≡ map by (flat_map questions_in asked)
    → AreReported by after asked reports)
    → HasReportsText format base after asked (reports_shown format shown)
reports_beside format base after asked answers answered reports shown r s have make = record {
  reports = reports;
  are = make (opening_answer base after) (r ∙ have);
  is = ap (reports_shown format) s;
}

-- What the reports of a board are.
use Rattle.std.specs.Prelude.{ℕ, List, Option}
use Rattle.std.specs.Io.KnownBytes.{Appends}
use Rattle.query_command.specs.Board.{IsBoard}
use Rattle.query_command.specs.ReportsAsked.{HasReports}
use Rattle.query_command.specs.declared.asking.ReportAsked.{ReportAsked}
use Rattle.ssb_formats.specs.declared.format.Format.{Format}
use Rattle.ssb_base.specs.Base.{Tables}
use Rattle.ssb_text.specs.Written.{AppendsPart}

-- known bytes grow by the reports that the text of a board asks for, in order and each under its title, over a base
-- that is after so many commits, in the format
pub record ReportsBoard (format : Format) (text : List ℕ) (base : Tables) (after : ℕ) (old new : Option (List ℕ))
    : Type 0 where
  pub titles : List (List ℕ)
  pub asked : List ReportAsked
  pub board : IsBoard text titles asked
  pub report : List ℕ
  pub of_base : HasReports format base after titles asked report
  pub appends : Appends old new report

-- known bytes grow by a part of that text from its beginning on
pub record ReportsBoardPart (format : Format) (text : List ℕ) (base : Tables) (after : ℕ) (old new : Option (List ℕ))
    : Type 0 where
  pub titles : List (List ℕ)
  pub asked : List ReportAsked
  pub board : IsBoard text titles asked
  pub report : List ℕ
  pub of_base : HasReports format base after titles asked report
  pub appends : AppendsPart old new report

-- The reports of statements; and a text that is none.
use Rattle.std.specs.Prelude.{ℕ, List, Option}
use Rattle.std.specs.Io.KnownBytes.{Appends}
use Rattle.ssb_base.specs.Base.{Tables}
use Rattle.ssb_formats.specs.declared.format.Format.{Format}
use Rattle.query_command.specs.ReportsAsked.{HasReportsText}
use Rattle.query_command.specs.declared.asking.ReportAsked.{ReportAsked}
use Rattle.ssb_text.specs.Written.{AppendsPart}
use Rattle.ssb_sql.specs.declared.fault.SqlFault.{SqlFault}
use Rattle.ssb_sql.specs.declared.fault.SqlFault.TheVariants as sql
use Rattle.query_command.specs.declared.statement.NoStatement.{NoStatement}
use Rattle.query_command.specs.declared.statement.NoStatement.TheVariants as none

abbrev pub status_of_sql : SqlFault → ℕ
status_of_sql sql.OutOfMemory = 4
status_of_sql _ = 2

abbrev pub no_statement_status : NoStatement → ℕ
no_statement_status (none.Sql fault) = status_of_sql fault
no_statement_status none.NotUtf8 = 2
no_statement_status none.Read = 4

-- known bytes grow by the rows of some statements, over a base that is after so many commits, in the format
abbrev pub ReportsStatements : Format → Tables → ℕ → Option (List ℕ) → Option (List ℕ) → Type 0
ReportsStatements format base after old new =
    (statements : List ReportAsked) × (report : List ℕ) × HasReportsText format base after statements report
    × Appends old new report

-- known bytes grow by a part of that text from its beginning on
abbrev pub ReportsStatementsPart : Format → Tables → ℕ → Option (List ℕ) → Option (List ℕ) → Type 0
ReportsStatementsPart format base after old new =
    (statements : List ReportAsked) × (report : List ℕ) × HasReportsText format base after statements report
    × AppendsPart old new report

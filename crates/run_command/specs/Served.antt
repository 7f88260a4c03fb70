-- What a run of scripts over a base writes.
use Rattle.std.specs.Prelude.{ℕ, ◌+◌, List, [], ◌∷◌, ◌++◌, length, codes, decimal, Option}
use Rattle.std.specs.Io.KnownBytes.{Appends}
use Rattle.ssb_audit.specs.Legal.{IsLegalTrace}
use Rattle.ssb_audit.specs.declared.trace.Trace.{Trace}
use Rattle.ssb_files.specs.Scripts.{AreScripts}
use Rattle.ssb_text.specs.Numbers.{line_feed}
use Rattle.ssb_text.specs.Written.{AppendsPart}
use Rattle.run_command.specs.Run.{IsRun}
use Rattle.ssb_base.specs.Base.{Tables}
use Rattle.ssb_script.specs.declared.request.Script.{Script}
use Rattle.ssb_trace.specs.TraceText.{trace_text}

-- the line with a client's number, and its report
abbrev pub client_line : ℕ → List ℕ
client_line number = codes "client " ++ (decimal number ++ line_feed)

abbrev pub client_text : ℕ → List ℕ → List ℕ
client_text number report = client_line number ++ report

-- the reports of clients that are numbered one after the other, the first of them so
abbrev pub clients_text : ℕ → List (List ℕ) → List ℕ
clients_text number [] = []
clients_text number (report ∷ reports) = client_text number report ++ clients_text (number + 1) reports

-- the line with the number of commits
abbrev pub commits_line : Trace → List ℕ
commits_line trace = codes "commits " ++ (decimal (length trace.commits) ++ line_feed)

-- what a run prints: each client's report, the clients by number from 1, and the number of commits
abbrev pub run_text : List (List ℕ) → Trace → List ℕ
run_text reports trace = clients_text 1 reports ++ commits_line trace

-- a server over the base served the scripts that the sources spell, a client each, by so many dispatchers: these are
-- their reports, and this is the trace, which is legal
pub record IsServed (base : Tables) (sources : List (Option (List ℕ))) (dispatchers : ℕ)
    (reports : List (List ℕ)) (trace : Trace) : Type 0 where
  pub scripts : List Script
  pub spelled : AreScripts sources scripts
  pub run : IsRun base scripts dispatchers reports trace
  pub legal : IsLegalTrace base trace

-- known bytes grow by what a run prints, and those of the trace's file by its trace
pub record AreTold (old new kept_old kept_new : Option (List ℕ)) (reports : List (List ℕ)) (trace : Trace) : Type 0
  where
    pub printed : Appends old new (run_text reports trace)
    pub kept : Appends kept_old kept_new (trace_text trace)

-- known bytes grow by parts of these from their beginnings on
pub record AreToldInPart (old new kept_old kept_new : Option (List ℕ)) (reports : List (List ℕ)) (trace : Trace)
    : Type 0 where
  pub printed : AppendsPart old new (run_text reports trace)
  pub kept : AppendsPart kept_old kept_new (trace_text trace)

-- such a run is told whole
pub record Serves (base : Tables) (sources : List (Option (List ℕ))) (dispatchers : ℕ)
    (old new kept_old kept_new : Option (List ℕ)) : Type 0 where
  pub reports : List (List ℕ)
  pub trace : Trace
  pub served : IsServed base sources dispatchers reports trace
  pub told : AreTold old new kept_old kept_new reports trace

-- such a run is told in part
pub record ServesPart (base : Tables) (sources : List (Option (List ℕ))) (dispatchers : ℕ)
    (old new kept_old kept_new : Option (List ℕ)) : Type 0 where
  pub reports : List (List ℕ)
  pub trace : Trace
  pub served : IsServed base sources dispatchers reports trace
  pub told : AreToldInPart old new kept_old kept_new reports trace

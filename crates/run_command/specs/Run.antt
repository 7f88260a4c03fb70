-- What a run of scripts leaves.
use Rattle.std.specs.Prelude.{◌≡◌, ℕ, List, map, flat_map, Option, Some}
use Rattle.row_store.specs.History.{CommitRecord}
use Rattle.ssb_audit.specs.declared.trace.Trace.{Trace}
use Rattle.ssb_base.specs.Base.{Tables}
use Rattle.ssb_script.specs.declared.request.Script.{Script}
use Rattle.ssb_serving.specs.Streams.{IsStreamRun}
use Rattle.run_command.specs.Sessions.{SessionRecord, IsSessionOf}

-- these sessions left the reports and the answers of the trace, in order
pub record AreReportsOf (sessions : List SessionRecord) (reports : List (List ℕ)) (trace : Trace) : Type 0 where
  pub reports_are : reports ≡ map (λ (session : SessionRecord). session.report) sessions
  pub answers_are : trace.answers ≡ flat_map (λ (session : SessionRecord). session.told) sessions

-- a server over the base served each script whole by a client of its own, the clients numbered from 1 in the order of
-- the scripts, and was closed with the commits of the trace: these are the reports, and what each of them was told, in
-- order
pub record IsRun (base : Tables) (scripts : List Script) (dispatchers : ℕ) (reports : List (List ℕ)) (trace : Trace) :
    Type 0 where
  pub sessions : List SessionRecord
  pub streams : IsStreamRun IsSessionOf base scripts dispatchers sessions trace.commits
  pub left : AreReportsOf sessions reports trace

-- all clients were served whole, where this was left of them, and that is what was made of it
pub record IsMadeOf (left : List (Option SessionRecord)) (log : List CommitRecord) (reports : List (List ℕ))
    (trace : Trace) : Type 0 where
  pub sessions : List SessionRecord
  pub whole : map (λ (session : SessionRecord). Some session) sessions ≡ left
  pub are : AreReportsOf sessions reports trace
  pub commits_are : trace.commits ≡ log

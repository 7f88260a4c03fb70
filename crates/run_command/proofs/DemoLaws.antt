use Rattle.std.proofs.Common.{arith}
-- The run of one script is that of the one-thread warehouse.
use Rattle.std.proofs.Common.{◌≡◌, ◌∙◌, ℕ, List, [], ◌∷◌, length, map, get_or, Some, refl, sym, ap, subst}
use Rattle.std.specs.Prelude.{slice_get}
use Rattle.std.proofs.lemmas.List.{length-map}
use Rattle.history.specs.Tokens.{new_token}
use Rattle.history_core.specs.declared.event.Who.TheVariants.{Client}
use Rattle.run_command.specs.Demo.{IsReport}
use Rattle.ssb_audit.specs.declared.trace.Trace.{Trace}
use Rattle.ssb_base.specs.Base.{Tables}
use Rattle.ssb_report.specs.Report.{Serves}
use Rattle.ssb_script.specs.Requests.{requests_of}
use Rattle.ssb_script.specs.declared.request.Script.{Script}
use Rattle.run_command.proofs.AloneLaws.{one_client_is_one_thread}
use Rattle.run_command.specs.Alone.{may_be_told, own}
use Rattle.run_command.specs.Run.{IsRun}
use Rattle.run_command.specs.Sessions.{SessionRecord, IsSessionOf}

-- one script has one report
one_report : (base : Tables) (script : Script) (dispatchers : ℕ) (reports : List (List ℕ)) (trace : Trace)
    → IsRun base (script ∷ []) dispatchers reports trace → length reports ≡ 1
one_report base script dispatchers reports trace run =
    ap length run.left.reports_are ∙ length-map run.sessions (λ (session : SessionRecord). session.report)
    ∙ run.streams.one_left

pub one_made : {X : Type 0} (read : X → List ℕ) (made : List X) (base : Tables) (scripts : List Script)
    (script : Script) (dispatchers : ℕ) (trace : Trace)
    → IsRun base scripts dispatchers (map read made) trace → scripts ≡ script ∷ [] → length made ≡ 1
one_made read made base scripts script dispatchers trace run one = grind (arith, length-map, one_report)

-- the only one
only_one : {X : Type 0} (xs : List X) → length xs ≡ 1 → (x : X) × (xs ≡ x ∷ [])
only_one [] one = absurd cc
only_one (x ∷ []) one = (x, refl)
only_one (x ∷ other ∷ others) one = absurd cc

-- its report is the one-thread warehouse's
report_of_one : (base : Tables) (script : Script) (dispatchers : ℕ) (reports : List (List ℕ)) (trace : Trace)
    (report : List ℕ) → IsRun base (script ∷ []) dispatchers reports trace → reports ≡ report ∷ []
    → IsReport base (requests_of script) report
report_of_one base script dispatchers reports trace report run only =
    let streams = run.streams in
    let found = only_one run.sessions streams.one_left in
    let ended = only_one streams.closed streams.one_each in
    let session = found.0 in
    let client = ended.0 in
    let whole : IsSessionOf script (new_token streams.table (Client 1)) client session =
    (streams.served 0 script client session refl (ap (λ clients. slice_get clients 0) ended.1)
    (ap (λ sessions. slice_get sessions 0) found.1)).spoken in
    let told : report ≡ session.report =
    ap (λ all. get_or all 0 report) (sym only ∙ run.left.reports_are
    ∙ ap (map (λ (session : SessionRecord). session.report)) found.1) in
    let one = one_client_is_one_thread streams.table client (requests_of script) (Some [])
    (Some session.told) (Some []) (Some session.report) streams.clients_are whole in
    record {
      ended = own client;
      served = subst
          (λ (b : Tables). Serves may_be_told 1 (record { base = b; log = [] }) (own client)
          (requests_of script) (Some []) (Some report)) streams.base_is
          (subst
          (λ r. Serves may_be_told 1 (record { base = streams.table.base; log = [] }) (own client)
          (requests_of script) (Some []) (Some r)) (sym told) one);
    }

pub report_made : {X : Type 0} (read : X → List ℕ) (made : List X) (one : X) (was base : Tables)
    (scripts : List Script) (script : Script) (dispatchers : ℕ) (trace : Trace)
    → IsRun was scripts dispatchers (map read made) trace → was ≡ base → scripts ≡ script ∷ [] → made ≡ one ∷ []
    → IsReport base (requests_of script) (read one)
report_made read made one was base scripts script dispatchers trace run over of_one only =
    report_of_one base script dispatchers (map read made) trace (read one)
    (subst (λ b. IsRun b (script ∷ []) dispatchers (map read made) trace) over
    (subst (λ xs. IsRun was xs dispatchers (map read made) trace) of_one run)) (ap (map read) only)

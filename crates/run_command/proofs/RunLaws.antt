-- What a run leaves is as its definition says, and its trace is legal.
use Rattle.std.proofs.Common.{◌≡◌, ℕ, zero, suc, ◌+◌, List, [], ◌∷◌, ◌++◌, length, map, flat_map, Option, Some, Result}
use Rattle.std.proofs.Common.{Ok, Err, refl, sym, ◌∙◌, ap, subst, arith}
use Rattle.std.specs.Prelude.{IfOk, IfSome, slice_get}
use Rattle.std.proofs.lemmas.List.{length-map}
use Rattle.std.proofs.lemmas.Option.{slice_get_within}
use Rattle.history.specs.Tokens.{TableRecord, TokenRecord, new_token}
use Rattle.history_core.specs.OwnCommits.{IsOfClients}
use Rattle.history_core.specs.declared.event.Who.TheVariants.{Client}
use Rattle.row_store.specs.History.{CommitRecord}
use Rattle.ssb_audit.specs.Legal.{IsLegalTrace}
use Rattle.ssb_audit.specs.declared.trace.Told.{Told}
use Rattle.ssb_audit.specs.declared.trace.Trace.{Trace}
use Rattle.ssb_base.specs.Base.{Tables}
use Rattle.ssb_script.specs.Requests.{requests_of}
use Rattle.ssb_script.specs.declared.request.Script.{Script}
use Rattle.ssb_serving.specs.Streams.{IsSpokenTo, IsStreamRun}
use Rattle.ssb_serving.proofs.PlaceLaws.{none_is, some_is, get_mapped, map_at, get_below}
use Rattle.run_command.proofs.TraceLaws.{runs_are_legal}
use Rattle.run_command.specs.Run.{IsMadeOf, IsRun}
use Rattle.run_command.specs.Sessions.{SessionRecord, IsSessionOf}
use Rattle.run_command.specs.Traces.{WasTold}

-- what a speaker of a script promises
abbrev Speaks : {S : Type 0} → (S → Script) → S → TokenRecord → TokenRecord → Option SessionRecord → Type 0
Speaks script_of speaker old new left = IfSome left (IsSessionOf (script_of speaker) old new)

-- what was spoken to a client by the speaker of a script is a session of it
session_of : {S : Type 0} (script_of : S → Script) (table : TableRecord) (log : List CommitRecord) (number : ℕ)
    (speaker : S) (script : Script) (closed : TokenRecord) (session : SessionRecord) → script_of speaker ≡ script
    → IsSpokenTo (Speaks script_of) table log number speaker closed (Some session)
    → IsSpokenTo IsSessionOf table log number script closed session
session_of script_of table log number speaker script closed session its is = grind arith

-- a run of speakers of scripts, each of whom left a session, is a run of these scripts
sessions_run : {S : Type 0} (script_of : S → Script) (base : Tables) (speakers : List S) (scripts : List Script)
    (dispatchers : ℕ) (left : List (Option SessionRecord)) (sessions : List SessionRecord) (log : List CommitRecord)
    → map script_of speakers ≡ scripts → map (λ (session : SessionRecord). Some session) sessions ≡ left
    → IsStreamRun (Speaks script_of) base speakers dispatchers left log
    → IsStreamRun IsSessionOf base scripts dispatchers sessions log
sessions_run {S} script_of base speakers scripts dispatchers left sessions log of_scripts whole run =
    let many : length speakers ≡ length scripts = sym (length-map speakers script_of) ∙ ap length of_scripts in
    record {
      table = run.table;
      base_is = run.base_is;
      clients_are = run.clients_are ∙ many;
      dispatchers_are = run.dispatchers_are;
      closed = run.closed;
      one_each = run.one_each ∙ many;
      one_left = sym (length-map sessions (λ (session : SessionRecord). Some session)) ∙ ap length whole ∙ run.one_left
          ∙ many;
      served = λ i script client session at_script at_client at_session.
          let found = get_mapped script_of speakers i script (ap (λ xs. slice_get xs i) of_scripts ∙ at_script) in
          session_of script_of run.table log (i + 1) found.0 script client session found.2
          (run.served i found.0 client (Some session) found.1 at_client
          (ap (λ xs. slice_get xs i) (sym whole)
          ∙ map_at (λ (session : SessionRecord). Some session) sessions i session at_session));
      ended = run.ended;
      ended_are = run.ended_are;
      ended_begin = run.ended_begin;
      true_log = run.true_log;
      legal = run.legal;
      named = subst (λ n. IsOfClients n log) many run.named;
    }

is_run : {S : Type 0} (script_of : S → Script) (base : Tables) (speakers : List S) (scripts : List Script)
    (dispatchers : ℕ) (left : List (Option SessionRecord)) (log : List CommitRecord) (reports : List (List ℕ))
    (trace : Trace) → map script_of speakers ≡ scripts
    → IsStreamRun (Speaks script_of) base speakers dispatchers left log → IsMadeOf left log reports trace
    → IsRun base scripts dispatchers reports trace
is_run script_of base speakers scripts dispatchers left log reports trace of_scripts run made = record {
  sessions = made.sessions;
  streams = subst (λ l. IsStreamRun IsSessionOf base scripts dispatchers made.sessions l) (sym made.commits_are)
      (sessions_run script_of base speakers scripts dispatchers left made.sessions log of_scripts made.whole run);
  left = made.are;
}

-- what is left, where anything is, is a run
pub run_where : {S X E : Type 0} (script_of : S → Script) (result : Result X E) (reports_of : X → List (List ℕ))
    (trace_of : X → Trace) (base : Tables) (speakers : List S) (scripts : List Script) (dispatchers : ℕ)
    (left : List (Option SessionRecord)) (log : List CommitRecord) → map script_of speakers ≡ scripts
    → IsStreamRun (Speaks script_of) base speakers dispatchers left log
    → IfOk result (λ x. IsMadeOf left log (reports_of x) (trace_of x))
    → IfOk result (λ x. IsRun base scripts dispatchers (reports_of x) (trace_of x))
run_where script_of (Ok x) reports_of trace_of base speakers scripts dispatchers left log of_scripts run made =
    is_run script_of base speakers scripts dispatchers left log (reports_of x) (trace_of x) of_scripts run made
run_where script_of (Err e) reports_of trace_of base speakers scripts dispatchers left log of_scripts run made = made

-- what clients were told, with their numbers from this one on
abbrev told_from : ℕ → List SessionRecord → List (ℕ × List Told)
told_from number [] = []
told_from number (session ∷ sessions) = (number, session.told) ∷ told_from (number + 1) sessions

told_at : (number : ℕ) (sessions : List SessionRecord) (i : ℕ) (c : ℕ × List Told)
    → slice_get (told_from number sessions) i ≡ Some c
    → (session : SessionRecord) × (slice_get sessions i ≡ Some session) × (c ≡ (number + i, session.told))
told_at number [] i c here = absurd (none_is here)
told_at number (s ∷ ss) zero c here = (s, refl, sym (some_is here) ∙ ap (λ k. (k, s.told)) (omega arith))
told_at number (s ∷ ss) (suc i) c here =
    let found = told_at (number + 1) ss i c here in
    (found.0, found.1, found.2 ∙ ap (λ k. (k, found.0.told)) (omega arith))

told_all : (number : ℕ) (sessions : List SessionRecord) → flat_map (λ (c : ℕ × List Told). c.1)
    (told_from number sessions) ≡ flat_map (λ (session : SessionRecord). session.told) sessions
told_all number [] = refl
told_all number (s ∷ ss) = ap (λ ts. s.told ++ ts) (told_all (number + 1) ss)

served_told : (table : TableRecord) (log : List CommitRecord) (number : ℕ) (script : Script) (closed : TokenRecord)
    (session : SessionRecord) → IsSpokenTo IsSessionOf table log number script closed session
    → WasTold table.base log number session.told
served_told table log number script closed session is = record {
  opened = new_token table (Client number);
  closed = closed;
  requests = requests_of script;
  replies = is.spoken.replies;
  over = refl;
  served = is.spoken.served;
  begins = is.begins;
  all = is.spoken.kept;
}

pub trace_is_legal : (base : Tables) (scripts : List Script) (dispatchers : ℕ) (reports : List (List ℕ)) (trace : Trace)
    → IsRun base scripts dispatchers reports trace → IsLegalTrace base trace
trace_is_legal base scripts dispatchers reports trace is =
    let run = is.streams in
    subst (λ answers. IsLegalTrace base (record { commits = trace.commits; answers = answers }))
    (told_all 1 is.sessions ∙ sym is.left.answers_are)
    (runs_are_legal base trace.commits (told_from 1 is.sessions) run.legal record {
      each = λ i c here.
          let found = told_at 1 is.sessions i c here in
          let below = slice_get_within is.sessions i found.0 found.1 in
          let script = get_below scripts i (omega (arith, run.one_left, below)) in
          let client = get_below run.closed i (omega (arith, run.one_each, run.one_left, below)) in
          subst (λ (d : ℕ × List Told). WasTold base trace.commits d.0 d.1)
          (sym (found.2 ∙ ap (λ k. (k, found.0.told)) (omega arith)))
          (subst (λ b. WasTold b trace.commits (i + 1) found.0.told) run.base_is
          (served_told run.table trace.commits (i + 1) script.0 client.0 found.0
          (run.served i script.0 client.0 found.0 script.1 client.1 found.1)));
      once = λ i j first second lt at_i at_j same.
          let here = ap (λ (d : ℕ × List Told). d.0) (told_at 1 is.sessions i first at_i).2 in
          let there = ap (λ (d : ℕ × List Told). d.0) (told_at 1 is.sessions j second at_j).2 in
          omega (arith, here, there, same, lt);
    })

-- What speaks against a trace.
use Rattle.std.specs.Prelude.{◌≡◌, ℕ, ◌+◌, ◌⊎◌, Bool, false, ◌==◌, nat_lt, if◌then◌else◌, List, [], ◌∷◌, length, take}
use Rattle.std.specs.Prelude.{find, reverse, Option, Some, None, Result, MatchResult}
use Rattle.std.specs.List.{count_by}
use Rattle.std.specs.Option.{option_or, option_map, option_map_or}
use Rattle.std.specs.Cmp.Lexicographic.{pointwise}
use Rattle.ssb_base.specs.Base.{Tables}
use Rattle.ssb_schema.specs.Facts.{facts_of}
use Rattle.ssb_answers.specs.Answer.{answer_of}
use Rattle.ssb_answers.specs.AnswerEq.{row_eq}
use Rattle.ssb_answers.specs.declared.answer.ResultRow.{ResultRow}
use Rattle.row_store.specs.History.{CommitRecord, lines_after}
use Rattle.row_store.specs.Refusals.{refusal_of}
use Rattle.ssb_audit.specs.declared.trace.Told.{Told}
use Rattle.ssb_audit.specs.declared.trace.Trace.{Trace}
use Rattle.ssb_audit.specs.declared.fault.AuditFault.{AuditFault}
use Rattle.ssb_audit.specs.declared.fault.AuditFault.TheVariants.{CommitRefused, WrongRows, WentBack, AtTooLarge}
use Rattle.ssb_audit.specs.declared.fault.AuditFault.TheVariants.{OutOfMemory}

-- the first fault of a list whose elements are judged by their places, the first of which is given
abbrev pub first_from : {X : Type 0} → (ℕ → X → Option AuditFault) → ℕ → List X → Option AuditFault
first_from judge place [] = None
first_from judge place (x ∷ xs) = option_or (judge place x) (first_from judge (place + 1) xs)

-- a commit, at a place counted from 0, is refused after these
abbrev pub refused_commit : Tables → List CommitRecord → ℕ → CommitRecord → Option AuditFault
refused_commit base before place commit = option_map (λ _. CommitRefused (place + 1))
    (refusal_of base before commit.actions)

-- a commit is refused after those before it
abbrev pub commit_fault : Tables → List CommitRecord → ℕ → CommitRecord → Option AuditFault
commit_fault base commits place commit = refused_commit base (take place commits) place commit

-- the answer was told to the client
abbrev pub is_to : ℕ → Told → Bool
is_to client told = told.client == client

-- which of its client's answers the next one is, counted from 1
abbrev pub turn_of : ℕ → List Told → ℕ
turn_of client earlier = count_by (is_to client) earlier + 1

-- the client's last answer among the earlier ones
abbrev pub last_of : ℕ → List Told → Option Told
last_of client earlier = find (is_to client) (reverse earlier)

-- an answer is after fewer commits than its client's answer before it
abbrev pub went_back : List Told → Told → Bool
went_back earlier told = option_map_or (λ last. nat_lt told.at last.at) (last_of told.client earlier) false

-- an answer is after more commits than there are, or after fewer than its client's answer before it
abbrev pub order_fault : ℕ → List Told → Told → Option AuditFault
order_fault commits earlier told =
    if nat_lt commits told.at then Some (AtTooLarge told.client (turn_of told.client earlier))
    else if went_back earlier told then Some (WentBack told.client (turn_of told.client earlier))
    else None

-- the rows of a question over the warehouse after a history
abbrev pub rows_after : Tables → List CommitRecord → Told → List ResultRow
rows_after base history told = answer_of told.question base.dimensions (facts_of (lines_after base history))

-- an answer has not the rows of its question after these commits
abbrev pub rows_fault : Tables → List CommitRecord → List Told → Told → Option AuditFault
rows_fault base history earlier told =
    if pointwise row_eq told.rows (rows_after base history told) then None
    else Some (WrongRows told.client (turn_of told.client earlier))

-- what speaks against an answer after the earlier ones
abbrev pub fault_after : Tables → List CommitRecord → List Told → Told → Option AuditFault
fault_after base commits earlier told = option_or (order_fault (length commits) earlier told)
    (rows_fault base (take told.at commits) earlier told)

-- what speaks against the answer at a place, counted from 0
abbrev pub answer_fault : Tables → List CommitRecord → List Told → ℕ → Told → Option AuditFault
answer_fault base commits answers place told = fault_after base commits (take place answers) told

-- the first fault of a trace: of its commits in order, and then of its answers in order
abbrev pub trace_fault : Tables → Trace → Option AuditFault
trace_fault base trace =
    option_or (first_from (commit_fault base trace.commits) 0 trace.commits)
    (first_from (answer_fault base trace.commits trace.answers) 0 trace.answers)

-- a good end tells that there is no fault, a bad one which it is; only want of memory may come before it
abbrev pub Tells : {X : Type 0} → Result X AuditFault → Option AuditFault → Type 0
Tells result fault = MatchResult result (λ _. fault ≡ None) (λ e. (e ≡ OutOfMemory) ⊎ (fault ≡ Some e))

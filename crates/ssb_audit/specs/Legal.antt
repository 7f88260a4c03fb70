-- What a legal trace is.
use Rattle.std.specs.Prelude.{◌≡◌, ℕ, ◌<◌, ◌≤◌, ◌↔◌, List, length, take, slice_get, Some, None}
use Rattle.ssb_base.specs.Base.{Tables}
use Rattle.row_store.specs.History.{CommitRecord}
use Rattle.row_store.specs.Legal.{IsLegal}
use Rattle.ssb_audit.specs.Traces.{rows_after, trace_fault}
use Rattle.ssb_audit.specs.declared.trace.Told.{Told}
use Rattle.ssb_audit.specs.declared.trace.Trace.{Trace}

-- an answer is true of a history: it is after some of its first commits, and its rows are those of its question after
-- these
pub record IsTrueOf (base : Tables) (commits : List CommitRecord) (told : Told) : Type 0 where
  pub within : told.at ≤ length commits
  pub rows : told.rows ≡ rows_after base (take told.at commits) told

-- of two answers to one client the later is after no fewer commits
abbrev pub NeverGoBack : List Told → Type 0
NeverGoBack answers = (i j : ℕ) (earlier later : Told) → i < j → slice_get answers i ≡ Some earlier
    → slice_get answers j ≡ Some later
    → earlier.client ≡ later.client → earlier.at ≤ later.at

-- the commits are a legal history, each answer is true of it, and no client's answers go back
pub record IsLegalTrace (base : Tables) (trace : Trace) : Type 0 where
  pub commits : IsLegal base trace.commits
  pub answers : (i : ℕ) (told : Told) → slice_get trace.answers i ≡ Some told → IsTrueOf base trace.commits told
  pub order : NeverGoBack trace.answers

-- nothing speaks against a trace exactly where it is legal
abbrev pub NoFaultIsLegal : Type 0
NoFaultIsLegal = (base : Tables) (trace : Trace) → (trace_fault base trace ≡ None) ↔ IsLegalTrace base trace

-- The one-thread warehouse, and the histories that it can have.
use Rattle.std.specs.Prelude.{◌≡◌, ℕ, ◌+◌, ◌⊎◌, List, [], ◌∷◌, ◌++◌, length, take, slice_get, Option, Some, None}
use Rattle.std.specs.Prelude.{Result, Ok, Err}
use Rattle.ssb_schema.specs.declared.refresh.Action.{Action}
use Rattle.ssb_base.specs.Base.{Tables}
use Rattle.row_store.specs.History.{CommitRecord}
use Rattle.row_store.specs.Refusals.{refusal_of}
use Rattle.row_store.specs.declared.commit.Receipt.{Receipt}
use Rattle.row_store.specs.declared.refusal.Refusal.{Refusal}
use Rattle.row_store.specs.declared.refusal.ApplyError.{ApplyError}
use Rattle.row_store.specs.declared.refusal.ApplyError.TheVariants as apply
use Rattle.row_store.specs.declared.refusal.RefreshError.{RefreshError}
use Rattle.row_store.specs.declared.refusal.RefreshError.TheVariants as refresh

-- the reply where so many commits were made: the number of the new one, or the refusal
abbrev pub reply_at : ℕ → Option Refusal → Result Receipt RefreshError
reply_at commits None = Ok (record { number = commits + 1 })
reply_at commits (Some refusal) = Err (refresh.Refused commits refusal.action refusal.cause)

-- what the one-thread warehouse replies to a refresh after a history
abbrev pub warehouse_reply : Tables → List CommitRecord → List Action → Result Receipt RefreshError
warehouse_reply base history actions = reply_at (length history) (refusal_of base history actions)

-- what a client may be told: the one-thread warehouse's reply, or that memory ran out for a refresh that has no refusal
abbrev pub IsRefreshReply : Tables → List CommitRecord → List Action → Result Receipt RefreshError → Type 0
IsRefreshReply base history actions reply =
    (reply ≡ warehouse_reply base history actions) ⊎ ((reply ≡ Err refresh.OutOfMemory)
    × (refusal_of base history actions ≡ None))

-- what a reply tells of the refresh: that it has no refusal, and the commit's number; or its refusal, and how many
-- commits there were
abbrev pub Tells : Result Receipt RefreshError → Tables → List CommitRecord → List Action → Type 0
Tells (Ok receipt) base history actions = (refusal_of base history actions ≡ None)
    × (receipt.number ≡ length history + 1)
Tells (Err (refresh.Refused at action cause)) base history actions =
    (refusal_of base history actions ≡ Some (record { action = action; cause = cause })) × (at ≡ length history)
Tells (Err refresh.OutOfMemory) base history actions = refusal_of base history actions ≡ None

abbrev pub unless_refused : List CommitRecord → CommitRecord → Option Refusal → List CommitRecord
unless_refused history commit None = history ++ commit ∷ []
unless_refused history commit (Some refusal) = history

-- the history after that: longer by the commit, or as it was
abbrev pub warehouse_after : Tables → List CommitRecord → CommitRecord → List CommitRecord
warehouse_after base history commit = unless_refused history commit (refusal_of base history commit.actions)

-- each commit has no refusal after the commits before it
pub record IsLegal (base : Tables) (history : List CommitRecord) : Type 0 where
  pub accepted : (i : ℕ) (commit : CommitRecord) → slice_get history i ≡ Some commit
      → refusal_of base (take i history) commit.actions ≡ None

-- what a failed application says: the refusal, or that memory ran out where there is none
abbrev pub Fails : ApplyError → Option Refusal → Type 0
Fails (apply.Refused refusal) found = found ≡ Some refusal
Fails apply.OutOfMemory found = found ≡ None

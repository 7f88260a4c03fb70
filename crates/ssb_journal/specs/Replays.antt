-- What the commits of a journal are to the tables.
use Rattle.std.specs.Prelude.{◌≡◌, ℕ, ◌+◌, List, take, slice_get, Some}
use Rattle.ssb_base.specs.Base.{Tables}
use Rattle.row_store.specs.History.{CommitRecord}
use Rattle.row_store.specs.Legal.{IsLegal}
use Rattle.row_store.specs.Refusals.{refusal_of}
use Rattle.ssb_journal.specs.declared.replaying.ReplayFault.{ReplayFault}
use Rattle.ssb_journal.specs.declared.replaying.ReplayFault.TheVariants.{Refused, OutOfMemory}
use Rattle.row_store.specs.declared.refusal.ApplyError.{ApplyError}
use Rattle.row_store.specs.declared.refusal.ApplyError.TheVariants as apply
use Rattle.row_store.specs.declared.refusal.Cause.{Cause}

-- a commit, counted from 1, is refused with this action and cause after those before it, which are legal
pub record IsFirstRefused (base : Tables) (commits : List CommitRecord) (number action : ℕ) (cause : Cause) : Type 0 where
  pub place : ℕ
  pub numbered : number ≡ place + 1
  pub commit : CommitRecord
  pub is : slice_get commits place ≡ Some commit
  pub legal : IsLegal base (take place commits)
  pub refused : refusal_of base (take place commits) commit.actions ≡ Some (record { action = action; cause = cause })

-- why commits are no history of a warehouse over the tables; that memory ran out tells nothing of them
abbrev pub IsReplayFault : Tables → List CommitRecord → ReplayFault → Type 0
IsReplayFault base commits (Refused number action cause) = IsFirstRefused base commits number action cause
IsReplayFault base commits OutOfMemory = Unit {0}

-- what is told where the refresh of a commit is not applied
abbrev pub not_applied : ℕ → ApplyError → ReplayFault
not_applied number (apply.Refused refusal) = Refused number refusal.action refusal.cause
not_applied number apply.OutOfMemory = OutOfMemory

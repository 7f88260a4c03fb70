-- What is left to do for one who needs commits on the disk.
use Rattle.std.specs.Prelude.{◌≡◌, ◌≤◌, ℕ, Option, None, Some}
use Rattle.ssb_journal.specs.declared.failed_append.FailedAppend.{FailedAppend}
use Rattle.ssb_journal.specs.declared.shared_journal.Whereabouts.{Whereabouts}
use Rattle.ssb_journal.specs.declared.shared_journal.Whereabouts.TheVariants as whereabouts
use Rattle.ssb_journal.specs.declared.shared_journal.JournalTurn.{JournalTurn}
use Rattle.ssb_journal.specs.declared.shared_journal.JournalTurn.TheVariants.{Reached, Append, Wait, Failed}

-- where the count is reached, at least so many commits are on the disk
abbrev pub HasEnough : {D J : Type 0} → ℕ → JournalTurn D J → Type 0
HasEnough commits (Reached on_disk) = commits ≤ on_disk.commits
HasEnough commits (Append log) = Unit {0}
HasEnough commits Wait = Unit {0}
HasEnough commits (Failed why) = Unit {0}

-- what is told of a journal's failure: the evidence of an append that failed, just where the journal has failed
abbrev pub TellsFailure : {D J F : Type 0} → Whereabouts D J F → Option (FailedAppend D) → Type 0
TellsFailure (whereabouts.Failed failed left) told = told ≡ Some failed
TellsFailure (whereabouts.Here log) told = told ≡ None
TellsFailure (whereabouts.Away on_disk) told = told ≡ None
TellsFailure whereabouts.Nowhere told = told ≡ None

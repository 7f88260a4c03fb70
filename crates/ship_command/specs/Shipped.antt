-- What was shipped of a journal's file, and why it ends.
use Rattle.std.specs.Prelude.{◌≡◌, ◌≢◌, ◌⊎◌, ◌<◌, ℕ, ◌+◌, List, [], ◌∷◌, ◌++◌, length, Option}
use Rattle.journal_opening.specs.Kept.{IsKnown}
use Rattle.journal_opening.specs.declared.fault.OpeningFault.TheVariants as opening
use Rattle.journal.specs.Groups.{recovered}
use Rattle.ssb_files.specs.Status.{status_of}
use Rattle.ssb_files.specs.declared.job.JobFault.{JobFault}
use Rattle.ssb_files.specs.declared.job.JobFault.TheVariants as job
use Rattle.ssb_journal.specs.Single.{IsNoGroup, IsNoHead}
use Rattle.ssb_journal.specs.declared.fault.JournalFault.{JournalFault}
use Rattle.ssb_journal.specs.declared.fault.JournalFault.TheVariants.{Damaged, NotAJournal, OutOfMemory}
use Rattle.ssb_journal.specs.declared.opening.JournalOpenFault.TheVariants as kept
use Rattle.ship_command.specs.Stream.{HaveCommits, Ships, ShipsNothing, ShipsPart}
use Rattle.ship_command.specs.declared.fault.ShipRefusal.{ShipRefusal}
use Rattle.ship_command.specs.declared.fault.ShipRefusal.TheVariants as refusal

-- all of these groups were shipped; where there are none, nothing was
abbrev pub ShipsAll : ℕ → ℕ → List (List ℕ) → Option (List ℕ) → Option (List ℕ) → Type 0
ShipsAll past after groups old new =
    Ships past after groups old new ⊎ ((groups ≡ []) × (after ≡ past) × ShipsNothing old new)

-- whatever ended it: no more than a beginning of a stream of the groups that were taken
abbrev pub ShipsNoMore : ℕ → ℕ → List (List ℕ) → Option (List ℕ) → Option (List ℕ) → Type 0
ShipsNoMore past after groups old new = ShipsPart past after groups old new ⊎ ShipsNothing old new

-- no group, and bytes that do not begin with a closed gate
pub record HasOtherGate (groups : List (List ℕ)) (behind : List ℕ) : Type 0 where
  pub none : groups ≡ []
  pub gate : ℕ
  pub rest : List ℕ
  pub are : behind ≡ gate ∷ rest
  pub other : gate ≢ 48

-- the first group is the last that was taken, and is no head
pub record EndsWithNoHead (groups : List (List ℕ)) (fault : JournalFault) : Type 0 where
  pub head : List ℕ
  pub are : groups ≡ head ∷ []
  pub told : IsNoHead head fault

-- the last group that was taken is none of commits, and is told by its number; the head has number 0
pub record EndsWithNoGroup (groups : List (List ℕ)) (fault : JournalFault) : Type 0 where
  pub before : List (List ℕ)
  pub last : List ℕ
  pub are : groups ≡ before ++ last ∷ []
  pub some : 0 < length before
  pub told : fault ≡ Damaged (length before)
  pub no_group : IsNoGroup last

-- what is told of groups that were taken of a file, and of the bytes behind them
abbrev pub IsGroupsFault : List (List ℕ) → List ℕ → JournalFault → Type 0
IsGroupsFault groups behind fault =
    (fault ≡ OutOfMemory) ⊎ (((fault ≡ NotAJournal) × HasOtherGate groups behind)
    ⊎ (EndsWithNoHead groups fault ⊎ EndsWithNoGroup groups fault))

-- the file stands for these groups, and with their commits the history has fewer than are to be left out
pub record HasTooFew (past after : ℕ) (file : List ℕ) (groups : List (List ℕ)) : Type 0 where
  pub all : recovered file ≡ groups
  pub count : ℕ
  pub counted : (groups ≡ []) × (count ≡ 0)
      ⊎ ((head : List ℕ) × (others : List (List ℕ)) × (groups ≡ head ∷ others) × HaveCommits others count)
  pub fewer : past + count < after

-- what a fault tells of a file, as far as it was read, of the groups that were taken of it, and of the bytes behind
abbrev pub TellsShipFault : ℕ → ℕ → List ℕ → List (List ℕ) → List ℕ → JobFault ShipRefusal → Type 0
TellsShipFault past after file groups behind (job.Program why) = status_of why ≡ 4
TellsShipFault past after file groups behind (job.Found (refusal.Journal (opening.Kept (kept.Disk error)))) = Unit {0}
TellsShipFault past after file groups behind (job.Found (refusal.Journal (opening.Kept (kept.Journal fault)))) =
    IsGroupsFault groups behind fault
TellsShipFault past after file groups behind (job.Found (refusal.Journal (opening.File error))) = ⊥
TellsShipFault past after file groups behind (job.Found (refusal.Journal (opening.HasBytes path))) = ⊥
TellsShipFault past after file groups behind (job.Found (refusal.Journal (opening.Replay why))) = ⊥
TellsShipFault past after file groups behind (job.Found (refusal.Commit why)) =
    (why.number ≡ after) × HasTooFew past after file groups

-- the groups that the file stands for were shipped. The file is the known one, where one is known
pub record ShipsFile (past after : ℕ) (known : Option (List ℕ)) (old new : Option (List ℕ)) : Type 0 where
  pub file : List ℕ
  pub is_file : IsKnown known file
  pub shipped : ShipsAll past after (recovered file) old new

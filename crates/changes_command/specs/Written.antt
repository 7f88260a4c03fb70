-- What is written of a journal's file, and why nothing is.
use Rattle.std.specs.Prelude.{◌≡◌, ◌⊎◌, ◌<◌, ◌≤◌, ◌+◌, ℕ, List, length, Option}
use Rattle.std.specs.Io.KnownBytes.{Appends}
use Rattle.journal.specs.Groups.{AreTorn}
use Rattle.journal_file.specs.declared.file_disk.OpenError.TheVariants as open_error
use Rattle.journal_opening.specs.Kept.{HasCommits, IsKnown}
use Rattle.journal_opening.specs.Marks.{AreMarks, HaveChecksums}
use Rattle.journal_opening.specs.declared.fault.OpeningFault.TheVariants as opening
use Rattle.row_store.specs.History.{CommitRecord}
use Rattle.row_store.specs.Legal.{IsLegal}
use Rattle.ssb_base.specs.Base.{Tables}
use Rattle.ssb_files.specs.Loaded.{AreRefusedToServe, IsLoadedToServe}
use Rattle.ssb_files.specs.Status.{status_of}
use Rattle.ssb_files.specs.declared.job.JobFault.{JobFault}
use Rattle.ssb_files.specs.declared.job.JobFault.TheVariants as job
use Rattle.ssb_journal.specs.Kept.{BeginsWithCommits}
use Rattle.ssb_journal.specs.Opening.{TellsOpenFault}
use Rattle.ssb_journal.specs.Replays.{IsReplayFault}
use Rattle.ssb_journal.specs.declared.head.TableMark.{TableMark}
use Rattle.ssb_schema.specs.declared.table.Table.{Table}
use Rattle.changes_command.specs.Signed.{asked_of, signed_lines}
use Rattle.changes_command.specs.SignedText.{changes_text}
use Rattle.changes_command.specs.declared.fault.ChangesRefusal.{ChangesRefusal}
use Rattle.changes_command.specs.declared.fault.ChangesRefusal.TheVariants as refusal
use Rattle.changes_command.specs.declared.format.ChangesFormat.{ChangesFormat}
use Rattle.changes_command.specs.declared.signed.ChangesStart.{ChangesStart}
use Rattle.changes_command.specs.declared.signed.ChangesStart.TheVariants.{Loaded, Behind}

-- no commit is asked for that comes before the journal's, where so many do
abbrev pub BeginsBehind : ℕ → ChangesStart → Type 0
BeginsBehind past Loaded = Unit {0}
BeginsBehind past (Behind count) = past ≤ count

-- there are as many commits as come before those that are asked for
abbrev pub Reaches : ChangesStart → ℕ → Type 0
Reaches Loaded commits = Unit {0}
Reaches (Behind count) commits = count ≤ commits

-- so many bytes of a file are torn
abbrev pub TellsTorn : List ℕ → ℕ → Type 0
TellsTorn file count = (torn : List ℕ) × AreTorn file torn × (count ≡ length torn)

-- the commits that a file has over tables of these marks are a legal history over a base, and the text of what is asked
-- for of its signed lines was written in a format, where so many commits came before
pub record IsWritten (base : Tables) (marks : List TableMark) (file : List ℕ) (past : ℕ) (start : ChangesStart)
    (format : ChangesFormat) (old new : Option (List ℕ)) : Type 0 where
  pub commits : List CommitRecord
  pub has : HasCommits marks commits file
  pub legal : IsLegal base commits
  pub begins : BeginsBehind past start
  pub reaches : Reaches start (past + length commits)
  pub written : Appends old new (changes_text format (asked_of start (signed_lines past base commits)))

-- and there are so many commits, with those that came before
abbrev pub IsWrittenUpTo : Tables → List TableMark → List ℕ → ℕ → ChangesStart → ChangesFormat → ℕ
    → Option (List ℕ) → Option (List ℕ) → Type 0
IsWrittenUpTo base marks file past start format after old new =
    (is : IsWritten base marks file past start format old new) × (after ≡ past + length is.commits)

-- why commits are not written: they are no history over the base; or a write failed, or memory ran out
abbrev pub IsCommitsFault : Tables → List CommitRecord → JobFault ChangesRefusal → Type 0
IsCommitsFault base commits (job.Program why) = status_of why ≡ 4
IsCommitsFault base commits (job.Found (refusal.Journal (opening.Replay why))) = IsReplayFault base commits why
IsCommitsFault base commits (job.Found (refusal.Journal (opening.Kept why))) = ⊥
IsCommitsFault base commits (job.Found (refusal.Journal (opening.File why))) = ⊥
IsCommitsFault base commits (job.Found (refusal.Journal (opening.HasBytes path))) = ⊥
IsCommitsFault base commits (job.Found (refusal.Commit why)) = ⊥

-- a commit is asked for that came before the journal's
abbrev pub IsTooEarly : ℕ → ChangesStart → JobFault ChangesRefusal → Type 0
IsTooEarly past start (job.Found (refusal.Commit why)) = (start ≡ Behind why.number) × (why.number < past)
IsTooEarly past start (job.Found (refusal.Journal why)) = ⊥
IsTooEarly past start (job.Program why) = ⊥

-- that commits, so many of them, are fewer
abbrev pub IsTooFar : ChangesStart → ℕ → JobFault ChangesRefusal → Type 0
IsTooFar start commits (job.Found (refusal.Commit why)) = (start ≡ Behind why.number) × (commits < why.number)
IsTooFar start commits (job.Found (refusal.Journal why)) = ⊥
IsTooFar start commits (job.Program why) = ⊥

-- what comes behind the commit of this number is asked for, and it came before the journal's; or the file has fewer
abbrev pub HasNoSuch : List TableMark → List ℕ → ℕ → ChangesStart → ℕ → Type 0
HasNoSuch marks file past start number =
    (start ≡ Behind number)
    × ((number < past)
    ⊎ ((commits : List CommitRecord) × HasCommits marks commits file × (past + length commits < number)))

-- what is told of a journal's file over tables, where so many commits came before: it is no journal over them, its
-- commits are no history, or there is no such commit; or that a write failed, or memory ran out
abbrev pub TellsFileFault : Tables → List TableMark → List ℕ → ℕ → ChangesStart → JobFault ChangesRefusal → Type 0
TellsFileFault base marks file past start (job.Program why) = status_of why ≡ 4
TellsFileFault base marks file past start (job.Found (refusal.Journal (opening.Kept why))) =
    TellsOpenFault marks file why
TellsFileFault base marks file past start (job.Found (refusal.Journal (opening.Replay why))) =
    (commits : List CommitRecord) × BeginsWithCommits marks commits file × IsReplayFault base commits why
TellsFileFault base marks file past start (job.Found (refusal.Journal (opening.File why))) = ⊥
TellsFileFault base marks file past start (job.Found (refusal.Journal (opening.HasBytes path))) = ⊥
TellsFileFault base marks file past start (job.Found (refusal.Commit why)) =
    HasNoSuch marks file past start why.number

-- why the changes of a journal's file are not written: of the file, which is the known one, where one is known, this is
-- told
pub record IsFileRefusal (base : Tables) (marks : List TableMark) (known : Option (List ℕ)) (past : ℕ)
    (start : ChangesStart) (why : JobFault ChangesRefusal) : Type 0 where
  pub file : List ℕ
  pub is_file : IsKnown known file
  pub told : TellsFileFault base marks file past start why

-- the five texts spell a base; the commits that the journal's file has are a legal history over it, and what is asked
-- for of its signed lines was written in a format, where so many commits came before. The file is the known one, where
-- one is known
pub record Changes (texts : Table → List ℕ) (known : Option (List ℕ)) (past : ℕ) (start : ChangesStart)
    (format : ChangesFormat) (old new : Option (List ℕ)) : Type 0 where
  pub base : Tables
  pub loaded : IsLoadedToServe texts base
  pub marks : List TableMark
  pub marked : AreMarks base marks
  pub checked : HaveChecksums texts marks
  pub file : List ℕ
  pub is_file : IsKnown known file
  pub is : IsWritten base marks file past start format old new

-- and there are so many commits, with those that came before
abbrev pub ChangesUpTo : (Table → List ℕ) → Option (List ℕ) → ℕ → ChangesStart → ChangesFormat → ℕ → Option (List ℕ)
    → Option (List ℕ) → Type 0
ChangesUpTo texts known past start format after old new =
    (changes : Changes texts known past start format old new) × (after ≡ past + length changes.is.commits)

-- the five texts spell a base; of the journal's file this is told over it
pub record TellsOverTexts (texts : Table → List ℕ) (known : Option (List ℕ)) (past : ℕ) (start : ChangesStart)
    (why : JobFault ChangesRefusal) : Type 0 where
  pub base : Tables
  pub loaded : IsLoadedToServe texts base
  pub marks : List TableMark
  pub marked : AreMarks base marks
  pub checked : HaveChecksums texts marks
  pub refused : IsFileRefusal base marks known past start why

-- what a fault tells: that the texts are refused; that another has the journal's file; that this is not there; or what
-- it is over the base that the texts spell
abbrev pub TellsChangesFault : (Table → List ℕ) → Option (List ℕ) → Type 0 → Type 0 → ℕ → ChangesStart
    → JobFault ChangesRefusal → Type 0
TellsChangesFault texts known Taken Missing past start (job.Program why) = status_of why ≡ 1 → AreRefusedToServe texts
TellsChangesFault texts known Taken Missing past start
    (job.Found (refusal.Journal (opening.File open_error.InUse))) = Taken
TellsChangesFault texts known Taken Missing past start
    (job.Found (refusal.Journal (opening.File (open_error.NoJournal told)))) = Missing
TellsChangesFault texts known Taken Missing past start
    (job.Found (refusal.Journal (opening.File (open_error.Io error)))) = Unit {0}
TellsChangesFault texts known Taken Missing past start (job.Found (refusal.Journal (opening.HasBytes path))) = ⊥
TellsChangesFault texts known Taken Missing past start (job.Found (refusal.Journal (opening.Kept why))) =
    TellsOverTexts texts known past start (job.Found (refusal.Journal (opening.Kept why)))
TellsChangesFault texts known Taken Missing past start (job.Found (refusal.Journal (opening.Replay why))) =
    TellsOverTexts texts known past start (job.Found (refusal.Journal (opening.Replay why)))
TellsChangesFault texts known Taken Missing past start (job.Found (refusal.Commit why)) =
    TellsOverTexts texts known past start (job.Found (refusal.Commit why))

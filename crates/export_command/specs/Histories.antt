-- The tables after the first commits of a journal's file, where some commits of the history came before them.
use Rattle.std.specs.Prelude.{◌≡◌, ◌⊎◌, ◌<◌, ◌≤◌, ◌+◌, ◌-◌, ℕ, Bool, false, List, ◌++◌, length, min, nat_le, take}
use Rattle.std.specs.Prelude.{Option, None, Some}
use Rattle.export_command.specs.After.{tables_after}
use Rattle.export_command.specs.Status.{export_status}
use Rattle.export_command.specs.declared.fault.ExportRefusal.{ExportRefusal}
use Rattle.export_command.specs.declared.fault.ExportRefusal.TheVariants as refusal
use Rattle.journal_file.specs.declared.file_disk.OpenError.TheVariants as open_error
use Rattle.journal_opening.specs.Kept.{HasCommits, IsKnown}
use Rattle.journal_opening.specs.Marks.{AreMarks, HaveChecksums}
use Rattle.journal_opening.specs.declared.fault.OpeningFault.TheVariants as opening
use Rattle.row_store.specs.History.{CommitRecord}
use Rattle.row_store.specs.Legal.{IsLegal}
use Rattle.ssb_base.specs.Base.{Tables}
use Rattle.ssb_files.specs.Loaded.{AreRefusedToServe, IsLoadedToServe}
use Rattle.ssb_files.specs.Status.{status_of}
use Rattle.ssb_files.specs.declared.job.JobFault.{JobFault}
use Rattle.ssb_files.specs.declared.job.JobFault.TheVariants as job
use Rattle.ssb_journal.specs.Kept.{BeginsWithCommits}
use Rattle.ssb_journal.specs.Opening.{TellsOpenFault}
use Rattle.ssb_journal.specs.Replays.{IsReplayFault}
use Rattle.ssb_journal.specs.declared.head.TableMark.{TableMark}
use Rattle.ssb_schema.specs.declared.table.Table.{Table}
use Rattle.ssb_text.specs.declared.layout.TableLayout.{TableLayout}
use Rattle.ssb_text.specs.declared.loading.Tables.{Tables as TableReaders}
use Rattle.ssb_text.specs.declared.table_files.TableFiles.{TableFiles}

-- table files of such readers, laid out so
abbrev pub files_of : {R : Type 0} → TableReaders R → TableLayout → TableFiles R
files_of tables layout = record { tables = tables; layout = layout }

-- the first commits, so many; or all
abbrev pub first_of : Option ℕ → List CommitRecord → List CommitRecord
first_of None commits = commits
first_of (Some most) commits = take most commits

-- so many are as many as are asked for
abbrev pub reaches : Option ℕ → ℕ → Bool
reaches None count = false
reaches (Some most) count = nat_le most count

-- so many are no more than are asked for
abbrev pub IsWithin : Option ℕ → ℕ → Type 0
IsWithin None made = Unit {0}
IsWithin (Some most) made = made ≤ most

-- how many of so many more are asked for
abbrev pub count_of_next : Option ℕ → ℕ → ℕ → ℕ
count_of_next None made next = next
count_of_next (Some most) made next = min (most - made) next

-- how many commits of a journal come up to the one of this number, where so many came before the journal's; or all
abbrev pub IsMost : ℕ → Option ℕ → Option ℕ → Type 0
IsMost past None most = most ≡ None
IsMost past (Some number) None = ⊥
IsMost past (Some number) (Some most) = past + most ≡ number

-- a file begins with a journal over tables of these marks, which has these commits first; or it has these alone
abbrev pub HasFirst : List TableMark → List CommitRecord → List ℕ → Type 0
HasFirst marks commits file =
    ((more : List CommitRecord) × BeginsWithCommits marks (commits ++ more) file) ⊎ HasCommits marks commits file

-- these are all commits of a file; or its first ones, where a last one is named
abbrev pub HasUpTo : Option ℕ → List TableMark → List CommitRecord → List ℕ → Type 0
HasUpTo None marks commits file = HasCommits marks commits file
HasUpTo (Some number) marks commits file = HasFirst marks commits file

-- where a last commit is named, so many come up to it
abbrev pub IsUpTo : Option ℕ → ℕ → Type 0
IsUpTo None after = Unit {0}
IsUpTo (Some number) after = after ≡ number

-- a file, which is the known one, where one is known, has these commits: all, or up to the one that is named; with so
-- many that came before they are so many
pub record AreThere (marks : List TableMark) (known : Option (List ℕ)) (past : ℕ) (at : Option ℕ)
    (commits : List CommitRecord) (after : ℕ) : Type 0 where
  pub file : List ℕ
  pub is_file : IsKnown known file
  pub has : HasUpTo at marks commits file
  pub so_many : after ≡ past + length commits
  pub up_to : IsUpTo at after

-- such commits are a legal history over a base, and these are the tables after it
pub record AreTablesAt (base : Tables) (marks : List TableMark) (known : Option (List ℕ)) (past : ℕ) (at : Option ℕ)
    (tables : Tables) (after : ℕ) : Type 0 where
  pub commits : List CommitRecord
  pub there : AreThere marks known past at commits after
  pub legal : IsLegal base commits
  pub are : tables ≡ tables_after base commits

-- the texts whose rows the tables have, where they are known, spell a base, and these are the tables after the commits
-- of the journal's file over it
pub record IsHistoryOf (AreTheirs : (Table → List ℕ) → Type 0) (known : Option (List ℕ)) (past : ℕ) (at : Option ℕ)
    (tables : Tables) (after : ℕ) : Type 0 where
  pub base : Tables
  pub loaded : (texts : Table → List ℕ) → AreTheirs texts → IsLoadedToServe texts base
  pub marks : List TableMark
  pub marked : AreMarks base marks
  pub checked : (texts : Table → List ℕ) → AreTheirs texts → HaveChecksums texts marks
  pub are : AreTablesAt base marks known past at tables after

-- a commit is asked for that came before the journal's
abbrev pub IsTooEarly : ℕ → Option ℕ → JobFault ExportRefusal → Type 0
IsTooEarly past at (job.Program why) = ⊥
IsTooEarly past at (job.Found (refusal.Commit why)) = (at ≡ Some why.number) × (why.number < past)
IsTooEarly past at (job.Found (refusal.Journal why)) = ⊥
IsTooEarly past at (job.Found (refusal.Folder why)) = ⊥
IsTooEarly past at (job.Found (refusal.CannotWrite path)) = ⊥

-- why commits are not made again: they are no history over the base, or memory ran out
abbrev pub IsBatchFault : Tables → List CommitRecord → JobFault ExportRefusal → Type 0
IsBatchFault base commits (job.Program why) = status_of why ≡ 4
IsBatchFault base commits (job.Found (refusal.Journal (opening.Replay why))) = IsReplayFault base commits why
IsBatchFault base commits (job.Found (refusal.Journal (opening.Kept why))) = ⊥
IsBatchFault base commits (job.Found (refusal.Journal (opening.File why))) = ⊥
IsBatchFault base commits (job.Found (refusal.Journal (opening.HasBytes path))) = ⊥
IsBatchFault base commits (job.Found (refusal.Commit why)) = ⊥
IsBatchFault base commits (job.Found (refusal.Folder why)) = ⊥
IsBatchFault base commits (job.Found (refusal.CannotWrite path)) = ⊥

-- the commit of this number is asked for, and came before the journal's; or the file has fewer
abbrev pub HasNoSuch : List TableMark → ℕ → Option ℕ → List ℕ → ℕ → Type 0
HasNoSuch marks past at file number =
    (at ≡ Some number)
    × ((number < past)
    ⊎ ((commits : List CommitRecord) × HasCommits marks commits file × (past + length commits < number)))

-- what is told of a journal's file over tables: it is no journal over them, its commits are no history, or there is no
-- such commit; or that memory ran out
abbrev pub TellsHistoryFault : Tables → List TableMark → ℕ → Option ℕ → List ℕ → JobFault ExportRefusal → Type 0
TellsHistoryFault base marks past at file (job.Program why) = status_of why ≡ 4
TellsHistoryFault base marks past at file (job.Found (refusal.Journal (opening.Kept why))) =
    TellsOpenFault marks file why
TellsHistoryFault base marks past at file (job.Found (refusal.Journal (opening.Replay why))) =
    (commits : List CommitRecord) × BeginsWithCommits marks commits file × IsReplayFault base commits why
TellsHistoryFault base marks past at file (job.Found (refusal.Journal (opening.File why))) = ⊥
TellsHistoryFault base marks past at file (job.Found (refusal.Journal (opening.HasBytes path))) = ⊥
TellsHistoryFault base marks past at file (job.Found (refusal.Commit why)) = HasNoSuch marks past at file why.number
TellsHistoryFault base marks past at file (job.Found (refusal.Folder why)) = ⊥
TellsHistoryFault base marks past at file (job.Found (refusal.CannotWrite path)) = ⊥

-- why there are no such tables: of the file, which is the known one, where one is known, this is told
pub record IsHistoryRefusal (base : Tables) (marks : List TableMark) (known : Option (List ℕ)) (past : ℕ)
    (at : Option ℕ) (why : JobFault ExportRefusal) : Type 0 where
  pub file : List ℕ
  pub is_file : IsKnown known file
  pub told : TellsHistoryFault base marks past at file why

-- the five texts spell a base; of the journal's file this is told over it
pub record IsRefusalOver (texts : Table → List ℕ) (known : Option (List ℕ)) (past : ℕ) (at : Option ℕ)
    (why : JobFault ExportRefusal) : Type 0 where
  pub base : Tables
  pub loaded : IsLoadedToServe texts base
  pub marks : List TableMark
  pub marked : AreMarks base marks
  pub checked : HaveChecksums texts marks
  pub refused : IsHistoryRefusal base marks known past at why

-- what a fault tells: that the texts are refused; that another has the journal's file; that this is not there; or what
-- it is over the base that the texts spell
abbrev pub TellsSourceFault : (Table → List ℕ) → Option (List ℕ) → Type 0 → Type 0 → ℕ → Option ℕ
    → JobFault ExportRefusal → Type 0
TellsSourceFault texts known Taken Missing past at (job.Program why) = status_of why ≡ 1 → AreRefusedToServe texts
TellsSourceFault texts known Taken Missing past at
    (job.Found (refusal.Journal (opening.File open_error.InUse))) = Taken
TellsSourceFault texts known Taken Missing past at
    (job.Found (refusal.Journal (opening.File (open_error.NoJournal told)))) = Missing
TellsSourceFault texts known Taken Missing past at
    (job.Found (refusal.Journal (opening.File (open_error.Io error)))) = Unit {0}
TellsSourceFault texts known Taken Missing past at (job.Found (refusal.Journal (opening.HasBytes path))) = ⊥
TellsSourceFault texts known Taken Missing past at (job.Found (refusal.Journal (opening.Kept why))) =
    IsRefusalOver texts known past at (job.Found (refusal.Journal (opening.Kept why)))
TellsSourceFault texts known Taken Missing past at (job.Found (refusal.Journal (opening.Replay why))) =
    IsRefusalOver texts known past at (job.Found (refusal.Journal (opening.Replay why)))
TellsSourceFault texts known Taken Missing past at (job.Found (refusal.Commit why)) =
    IsRefusalOver texts known past at (job.Found (refusal.Commit why))
TellsSourceFault texts known Taken Missing past at (job.Found (refusal.Folder why)) = ⊥
TellsSourceFault texts known Taken Missing past at (job.Found (refusal.CannotWrite path)) = ⊥

-- the texts whose rows the tables have, where they are known, are refused, or the journal is: a fault that says so is
-- told of them
pub record AreRefusedTogether (AreTheirs : (Table → List ℕ) → Type 0) (known : Option (List ℕ)) (Taken Missing : Type 0)
    (past : ℕ) (at : Option ℕ) : Type 0 where
  pub fault : JobFault ExportRefusal
  pub refused : export_status fault ≡ 1
  pub told : (texts : Table → List ℕ) → AreTheirs texts → TellsSourceFault texts known Taken Missing past at fault

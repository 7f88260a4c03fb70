-- What an export leaves.
use Rattle.std.specs.Prelude.{◌≡◌, ◌⊎◌, ℕ, List, length, Option, None}
use Rattle.export_command.specs.After.{tables_after}
use Rattle.export_command.specs.declared.fault.ExportRefusal.{ExportRefusal}
use Rattle.export_command.specs.declared.fault.ExportRefusal.TheVariants as refusal
use Rattle.journal.specs.Groups.{AreTorn}
use Rattle.journal_file.specs.declared.file_disk.OpenError.TheVariants as open_error
use Rattle.journal_opening.specs.Kept.{HasCommits, IsKnown}
use Rattle.journal_opening.specs.Marks.{AreMarks, HaveChecksums}
use Rattle.journal_opening.specs.declared.fault.OpeningFault.TheVariants as opening
use Rattle.row_store.specs.History.{CommitRecord}
use Rattle.row_store.specs.Legal.{IsLegal}
use Rattle.ssb_base.specs.Base.{Tables, IsSound}
use Rattle.ssb_files.specs.Loaded.{AreRefusedToServe, IsLoadedToServe}
use Rattle.ssb_files.specs.Status.{status_of}
use Rattle.ssb_files.specs.declared.job.JobFault.{JobFault}
use Rattle.ssb_files.specs.declared.job.JobFault.TheVariants as job
use Rattle.ssb_journal.specs.Kept.{BeginsWithCommits}
use Rattle.ssb_journal.specs.Opening.{TellsOpenFault}
use Rattle.ssb_journal.specs.Replays.{IsReplayFault}
use Rattle.ssb_journal.specs.declared.head.TableMark.{TableMark}
use Rattle.ssb_schema.specs.declared.table.Table.{Table}
use Rattle.ssb_schema.specs.declared.table.Table.TheVariants.{Lineorder}
use Rattle.ssb_text.specs.Load.{SpellsBase}
use Rattle.table_folder.specs.Calls.{FolderCall, LeftAnyTime}
use Rattle.table_folder.specs.Filled.{AreAll, HasAll}
use Rattle.ssb_text.specs.TableText.{base_texts}

-- the commits that a file has over tables of these marks are a legal history over a base, and these are the tables
-- after it
pub record AreTablesAfter (base : Tables) (marks : List TableMark) (file : List ℕ) (tables : Tables) : Type 0 where
  pub commits : List CommitRecord
  pub has : HasCommits marks commits file
  pub legal : IsLegal base commits
  pub are : tables ≡ tables_after base commits

-- the commits that a file has over tables of these marks are so many
abbrev pub HasSoMany : List TableMark → ℕ → List ℕ → Type 0
HasSoMany marks count file = (commits : List CommitRecord) × HasCommits marks commits file × (length commits ≡ count)

-- the bytes of it that a crash has torn are so many
abbrev pub HasSoManyTorn : ℕ → List ℕ → Type 0
HasSoManyTorn count file = (torn : List ℕ) × AreTorn file torn × (length torn ≡ count)

-- loaded tables, by what a journal's head knows them, and the bytes of a journal's file over them
pub record ReadJournal : Type 0 where
  pub base : Tables
  pub marks : List TableMark
  pub file : List ℕ

-- these are the tables after its commits, which are so many, and so many bytes are torn
pub record AreOfFile (base : Tables) (marks : List TableMark) (file : List ℕ) (tables : Tables) (commits torn : ℕ)
    : Type 0 where
  pub after : AreTablesAfter base marks file tables
  pub so_many : HasSoMany marks commits file
  pub so_many_torn : HasSoManyTorn torn file

-- the folder has the five texts of the tables after the commits that the file keeps, and each crash from now on leaves
-- them; they spell these tables, of which nothing is refused
pub record IsExport (base : Tables) (marks : List TableMark) (file : List ℕ) (calls : List FolderCall) : Type 0 where
  pub tables : Tables
  pub after : AreTablesAfter base marks file tables
  pub has : HasAll (base_texts tables) calls
  pub spelled : SpellsBase (base_texts tables) tables
  pub sound : IsSound tables

-- under the name of lineorder a crash left nothing, or under each name the text of the table after the commits
abbrev pub IsNoneOrExport : Tables → List TableMark → List ℕ → (Table → Option (List ℕ)) → Type 0
IsNoneOrExport base marks file left =
    (left Lineorder ≡ None)
    ⊎ ((tables : Tables) × AreTablesAfter base marks file tables × AreAll (base_texts tables) left)

-- at any moment it did
abbrev pub LeftNoneOrExport : Tables → List TableMark → List ℕ → List FolderCall → Type 0
LeftNoneOrExport base marks file calls =
    (left : Table → Option (List ℕ)) → LeftAnyTime calls left → IsNoneOrExport base marks file left

-- what is told of a journal's file over tables: it is no journal over them, or its commits are no history
abbrev pub TellsJournalFault : Tables → List TableMark → List ℕ → JobFault ExportRefusal → Type 0
TellsJournalFault base marks file (job.Found (refusal.Journal (opening.Kept why))) = TellsOpenFault marks file why
TellsJournalFault base marks file (job.Found (refusal.Journal (opening.Replay why))) =
    (commits : List CommitRecord) × BeginsWithCommits marks commits file × IsReplayFault base commits why
TellsJournalFault base marks file _ = Unit {0}

-- it is of a journal's commits, or memory ran out
abbrev pub IsReadFault : JobFault ExportRefusal → Type 0
IsReadFault (job.Program why) = status_of why ≡ 4
IsReadFault (job.Found (refusal.Journal (opening.Kept why))) = Unit {0}
IsReadFault (job.Found (refusal.Journal (opening.Replay why))) = Unit {0}
IsReadFault (job.Found (refusal.Journal (opening.File why))) = ⊥
IsReadFault (job.Found (refusal.Journal (opening.HasBytes path))) = ⊥
IsReadFault (job.Found (refusal.CannotWrite path)) = ⊥
IsReadFault (job.Found (refusal.Folder why)) = ⊥
IsReadFault (job.Found (refusal.Commit why)) = ⊥

-- why there are no tables after a journal's file: of the file, which is the known one, where one is known, this is told;
-- or memory ran out
pub record IsJournalRefusal (base : Tables) (marks : List TableMark) (known : Option (List ℕ))
    (why : JobFault ExportRefusal) : Type 0 where
  pub file : List ℕ
  pub is_file : IsKnown known file
  pub told : TellsJournalFault base marks file why
  pub is : IsReadFault why

-- why tables were not written into a folder: that could not be made, or a call of the system failed, or memory ran out
abbrev pub IsFillFault : JobFault ExportRefusal → Type 0
IsFillFault (job.Program why) = status_of why ≡ 4
IsFillFault (job.Found (refusal.Journal why)) = ⊥
IsFillFault (job.Found (refusal.CannotWrite path)) = Unit {0}
IsFillFault (job.Found (refusal.Folder why)) = ⊥
IsFillFault (job.Found (refusal.Commit why)) = ⊥

-- why a folder was not found: it takes no tables, or a call of the system failed, or memory ran out
abbrev pub IsFindFault : JobFault ExportRefusal → Type 0
IsFindFault (job.Program why) = status_of why ≡ 4
IsFindFault (job.Found (refusal.Folder why)) = Unit {0}
IsFindFault (job.Found (refusal.CannotWrite path)) = ⊥
IsFindFault (job.Found (refusal.Journal why)) = ⊥
IsFindFault (job.Found (refusal.Commit why)) = ⊥

-- the five texts spell a base; of the journal's file, which is the known one, where one is known, this is told over it
pub record TellsOverTexts (texts : Table → List ℕ) (known : Option (List ℕ)) (why : JobFault ExportRefusal) : Type 0
  where
    pub base : Tables
    pub loaded : IsLoadedToServe texts base
    pub marks : List TableMark
    pub marked : AreMarks base marks
    pub checked : HaveChecksums texts marks
    pub file : List ℕ
    pub is_file : IsKnown known file
    pub told : TellsJournalFault base marks file why

-- what the fault of an export tells: that the texts are refused; that another has the journal's file; that this is not
-- there; or what it is over the base that the texts spell
abbrev pub TellsExportFault : (Table → List ℕ) → Option (List ℕ) → Type 0 → Type 0 → JobFault ExportRefusal → Type 0
TellsExportFault texts known Taken Missing (job.Program why) = status_of why ≡ 1 → AreRefusedToServe texts
TellsExportFault texts known Taken Missing (job.Found (refusal.Journal (opening.File open_error.InUse))) = Taken
TellsExportFault texts known Taken Missing (job.Found (refusal.Journal (opening.File (open_error.NoJournal told)))) =
    Missing
TellsExportFault texts known Taken Missing (job.Found (refusal.Journal (opening.File (open_error.Io error)))) = Unit {0}
TellsExportFault texts known Taken Missing (job.Found (refusal.Journal (opening.HasBytes path))) = ⊥
TellsExportFault texts known Taken Missing (job.Found (refusal.Journal (opening.Kept why))) =
    TellsOverTexts texts known (job.Found (refusal.Journal (opening.Kept why)))
TellsExportFault texts known Taken Missing (job.Found (refusal.Journal (opening.Replay why))) =
    TellsOverTexts texts known (job.Found (refusal.Journal (opening.Replay why)))
TellsExportFault texts known Taken Missing (job.Found (refusal.Folder why)) = Unit {0}
TellsExportFault texts known Taken Missing (job.Found (refusal.CannotWrite path)) = Unit {0}
TellsExportFault texts known Taken Missing (job.Found (refusal.Commit why)) = ⊥

-- texts are read back as these tables, of which nothing is refused
pub record AreReadBack (texts : Table → List ℕ) (tables : Tables) : Type 0 where
  pub loaded : IsLoadedToServe texts tables
  pub sound : IsSound tables

-- the five texts spell a base; the commits that the journal's file has are a legal history over it; and by these calls
-- the folder has the texts of the tables after it, which are read back as these. The file is the known one, where one is
-- known
pub record Exports (texts : Table → List ℕ) (known : Option (List ℕ)) (calls : List FolderCall) : Type 0 where
  pub base : Tables
  pub loaded : IsLoadedToServe texts base
  pub marks : List TableMark
  pub marked : AreMarks base marks
  pub checked : HaveChecksums texts marks
  pub file : List ℕ
  pub is_file : IsKnown known file
  pub commits : List CommitRecord
  pub has : HasCommits marks commits file
  pub legal : IsLegal base commits
  pub filled : HasAll (base_texts (tables_after base commits)) calls
  pub read_back : AreReadBack (base_texts (tables_after base commits)) (tables_after base commits)

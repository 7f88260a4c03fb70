-- What an export leaves, of what was loaded, kept and written.
use Rattle.std.proofs.Common.{◌≡◌, ◌∙◌, ℕ, List, [], length, Option, Result, Ok, Err, OnOk, ap, subst, refl, sym, arith}
use Rattle.std.proofs.Common.{Bool, false, inl, inr, true}
use Rattle.std.specs.Prelude.{IfSome, None, Some}
use Rattle.ssb_base.specs.Base.{IsSound, Tables}
use Rattle.ssb_base.specs.Limits.{limits_of}
use Rattle.ssb_files.specs.Loaded.{IsLoadedToServe}
use Rattle.ssb_files.specs.Status.{status_of}
use Rattle.ssb_files.specs.declared.fault.Fault.{Fault}
use Rattle.ssb_files.specs.declared.job.JobFault.{JobFault}
use Rattle.ssb_files.specs.declared.job.JobFault.TheVariants as job
use Rattle.journal.specs.Disk.{BeginsAsRead}
use Rattle.journal.specs.Groups.{AreTorn, recovered}
use Rattle.journal_file.specs.declared.file_disk.OpenError.{OpenError}
use Rattle.journal_file.specs.declared.file_disk.OpenError.TheVariants as open_error
use Rattle.journal_opening.proofs.KnownLaws.{file_read}
use Rattle.journal_opening.specs.Kept.{IsKnown}
use Rattle.journal_opening.specs.Marks.{AreMarks, HaveChecksums}
use Rattle.journal_opening.specs.Opens.{TellsMissing}
use Rattle.journal_opening.specs.declared.fault.OpeningFault.TheVariants as opening
use Rattle.ssb_journal.specs.Opening.{IsKept}
use Rattle.ssb_journal.specs.declared.head.TableMark.{TableMark}
use Rattle.ssb_journal.specs.declared.kept.KeptCommits.{KeptCommits}
use Rattle.ssb_schema.specs.declared.table.Table.{Table}
use Rattle.table_folder.specs.Calls.{FolderCall}
use Rattle.table_folder.specs.Filled.{AreNoneOrAll, HasAll, LeftNoneOrAll}
use Rattle.ssb_text.specs.RoundTrip.{AreTableRows, TextsSpellTheirBase}
use Rattle.ssb_text.specs.TableText.{base_texts}
use Rattle.row_store.specs.History.{CommitRecord, Warehouse}
use Rattle.row_store.specs.Legal.{IsLegal}
use Rattle.export_command.specs.After.{tables_after}
use Rattle.export_command.specs.Exported.{AreOfFile, AreReadBack, AreTablesAfter, Exports, HasSoMany, IsExport}
use Rattle.export_command.specs.Exported.{IsFindFault, IsJournalRefusal, IsReadFault}
use Rattle.export_command.specs.Exported.{IsNoneOrExport, LeftNoneOrExport, TellsExportFault, TellsJournalFault}
use Rattle.export_command.specs.Exported.{TellsOverTexts}
use Rattle.export_command.specs.declared.fault.ExportRefusal.{ExportRefusal}
use Rattle.export_command.specs.declared.fault.ExportRefusal.TheVariants as refusal

-- a folder that was filled with the tables after the commits
pub is_export : (base : Tables) (marks : List TableMark) (file : List ℕ) (tables : Tables) (calls : List FolderCall)
    → AreTablesAfter base marks file tables → IsSound tables → TextsSpellTheirBase → HasAll (base_texts tables) calls
    → ((t : Table) → AreTableRows tables t) → IsExport base marks file calls
is_export base marks file tables calls after sound spell has rows = record {
  tables = tables;
  after = after;
  has = has;
  spelled = spell tables rows;
  sound = sound;
}

none_or_export : (base : Tables) (marks : List TableMark) (file : List ℕ) (tables : Tables)
    → AreTablesAfter base marks file tables → (left : Table → Option (List ℕ))
    → AreNoneOrAll (base_texts tables) left → IsNoneOrExport base marks file left
none_or_export base marks file tables after left (inl none) = inl none
none_or_export base marks file tables after left (inr all) = inr (tables, after, all)

pub left_export : (base : Tables) (marks : List TableMark) (file : List ℕ) (tables : Tables) (calls : List FolderCall)
    → AreTablesAfter base marks file tables → LeftNoneOrAll (base_texts tables) calls
    → LeftNoneOrExport base marks file calls
left_export base marks file tables calls after all left any =
    none_or_export base marks file tables after left (all left any)

-- over the tables that were loaded
exports-of : (texts : Table → List ℕ) (known : Option (List ℕ)) (base : Tables) (marks : List TableMark) (file : List ℕ)
    (calls : List FolderCall) → IsLoadedToServe texts base → AreMarks base marks
    → HaveChecksums texts marks → IsKnown known file → IsExport base marks file calls → Exports texts known calls
exports-of texts known base marks file calls loaded marked checked is_file is = record {
  base = base;
  loaded = loaded;
  marks = marks;
  marked = marked;
  checked = checked;
  file = file;
  is_file = is_file;
  commits = is.after.commits;
  has = is.after.has;
  legal = is.after.legal;
  filled = subst (λ (now : Tables). HasAll (base_texts now) calls) is.after.are is.has;
  read_back = subst (λ (now : Tables). AreReadBack (base_texts now) now) is.after.are (record {
    loaded = record {
      limited = ap (λ (now : Tables). limits_of now.limits) is.after.are ∙ loaded.limited;
      spelled = is.spelled;
    };
    sound = is.sound;
  });
}

pub exports : (texts : Table → List ℕ) (known : Option (List ℕ)) (base held : Tables) (marks : List TableMark)
    (file : List ℕ) (calls : List FolderCall) → IsLoadedToServe texts base → AreMarks base marks
    → HaveChecksums texts marks
    → IsKnown known file → held ≡ base → IsExport held marks file calls → Exports texts known calls
exports texts known base held marks file calls loaded marked checked is_file same is =
    exports-of texts known base marks file calls loaded marked checked is_file
    (subst (λ (b : Tables). IsExport b marks file calls) same is)

pub on_ok : {X E : Type 0} (P Q : Type 0) (result : Result X E) → (P → Q) → OnOk result P → OnOk result Q
on_ok P Q (Ok v) more holds = more holds
on_ok P Q (Err e) more holds = tt

-- a file that is refused as it is read, or whose commits are
pub refused_reading : (base : Tables) (marks : List TableMark) (known now : Option (List ℕ)) (taken : List ℕ)
    (Ended : Type 0) (why : JobFault ExportRefusal) → now ≡ known → IfSome now (BeginsAsRead taken Ended)
    → ((file : List ℕ) → BeginsAsRead taken Ended file → TellsJournalFault base marks file why) → IsReadFault why
    → IsJournalRefusal base marks known why
refused_reading base marks known now taken Ended why same as_known tells is =
    let read = file_read now taken Ended as_known in
    record {
      file = read.file;
      is_file = subst (λ k. IsKnown k read.file) same read.is_file;
      told = tells read.file read.begins;
      is = is;
    }

-- that memory ran out tells nothing of a file
pub lacks_memory : (base : Tables) (marks : List TableMark) (known : Option (List ℕ)) (why : Fault)
    → status_of why ≡ 4 → IsJournalRefusal base marks known (job.Program why)
lacks_memory base marks None why four = record { file = []; is_file = tt; told = tt; is = four }
lacks_memory base marks (Some file) why four = record { file = file; is_file = refl; told = tt; is = four }

-- the tables after the commits that a file keeps
pub after_kept : (base : Tables) (marks : List TableMark) (file : List ℕ) (kept : KeptCommits) (tables : Tables)
    → IsKept marks (recovered file) kept → IsLegal base kept.commits.items
    → tables ≡ tables_after base kept.commits.items → AreTablesAfter base marks file tables
after_kept base marks file kept tables (inl new) legal are = grind arith
after_kept base marks file kept tables (inr is) legal are = grind arith

pub has_so_many : (marks : List TableMark) (file : List ℕ) (kept : KeptCommits) (count : ℕ)
    → IsKept marks (recovered file) kept → count ≡ length kept.commits.items → HasSoMany marks count file
has_so_many marks file kept count (inl new) many = grind arith
has_so_many marks file kept count (inr is) many = grind arith

-- a file of which all commits are asked for is read to its end
pub is_whole : (whole : Bool) → (whole ≡ false → false ≡ true) → whole ≡ true
is_whole true part = refl
is_whole false part = part refl

-- the tables after the commits that were made again as a file was read, which are what it keeps
pub of_file : (base held : Tables) (marks head : List TableMark) (file torn : List ℕ) (kept : KeptCommits)
    (tables : Tables) (store : Warehouse) (commits : List CommitRecord) (bytes : ℕ)
    → store ≡ record { base = held; log = commits } → held ≡ base → kept.commits.items ≡ commits → head ≡ marks
    → IsKept head (recovered file) kept → IsLegal store.base store.log → tables ≡ tables_after store.base store.log
    → AreTorn file torn → bytes ≡ length torn → AreOfFile base marks file tables kept.count bytes
of_file base held marks head file torn kept tables store commits bytes is same are marked keeps legal after torn_are
    count =
    let made : store ≡ record { base = base; log = kept.commits.items } =
    is ∙ ap (λ b. record { base = b; log = commits }) same ∙ ap (λ l. record { base = base; log = l }) (sym are) in
    let kept_is = subst (λ m. IsKept m (recovered file) kept) marked keeps in
    record {
      after = after_kept base marks file kept tables kept_is
          (subst (λ (w : Warehouse). IsLegal w.base w.log) made legal)
          (after ∙ ap (λ (w : Warehouse). tables_after w.base w.log) made);
      so_many = has_so_many marks file kept kept.count kept_is kept.counted;
      so_many_torn = (torn, torn_are, sym count);
    }

-- what the faults of an export's steps tell of the texts and of the journal's file
pub find_fault_tells : (texts : Table → List ℕ) (known : Option (List ℕ)) (Taken Missing : Type 0)
    (why : JobFault ExportRefusal) → IsFindFault why → TellsExportFault texts known Taken Missing why
find_fault_tells texts known Taken Missing (job.Program why) is = λ one. absurd (omega (arith, is, one))
find_fault_tells texts known Taken Missing (job.Found (refusal.Folder why)) is = tt
find_fault_tells texts known Taken Missing (job.Found (refusal.CannotWrite path)) is = tt
find_fault_tells texts known Taken Missing (job.Found (refusal.Journal why)) is = absurd is
find_fault_tells texts known Taken Missing (job.Found (refusal.Commit why)) is = absurd is

pub file_fault_tells : (texts : Table → List ℕ) (known : Option (List ℕ)) (Taken Missing : Type 0) (why : OpenError)
    → (why ≡ open_error.InUse → Taken) → TellsMissing Missing why
    → TellsExportFault texts known Taken Missing (job.Found (refusal.Journal (opening.File why)))
file_fault_tells texts known Taken Missing open_error.InUse taken missing = taken refl
file_fault_tells texts known Taken Missing (open_error.NoJournal told) taken missing = missing
file_fault_tells texts known Taken Missing (open_error.Io error) taken missing = tt

over_texts : (texts : Table → List ℕ) (known : Option (List ℕ)) (base held : Tables) (marks : List TableMark)
    (why : JobFault ExportRefusal) → IsLoadedToServe texts base → AreMarks base marks
    → HaveChecksums texts marks → held ≡ base → IsJournalRefusal held marks known why → TellsOverTexts texts known why
over_texts texts known base held marks why loaded marked checked same is = record {
  base = base;
  loaded = loaded;
  marks = marks;
  marked = marked;
  checked = checked;
  file = is.file;
  is_file = is.is_file;
  told = subst (λ (b : Tables). TellsJournalFault b marks is.file why) same is.told;
}

pub read_fault_tells : (texts : Table → List ℕ) (known : Option (List ℕ)) (Taken Missing : Type 0) (base held : Tables)
    (marks : List TableMark) (why : JobFault ExportRefusal) → IsLoadedToServe texts base → AreMarks base marks
    → HaveChecksums texts marks → held ≡ base → IsJournalRefusal held marks known why
    → TellsExportFault texts known Taken Missing why
read_fault_tells texts known Taken Missing base held marks (job.Program why) loaded marked checked same is =
    λ one. absurd (omega (arith, is.is, one))
read_fault_tells texts known Taken Missing base held marks (job.Found (refusal.Journal (opening.File why)))
    loaded marked checked same is = absurd is.is
read_fault_tells texts known Taken Missing base held marks (job.Found (refusal.Journal (opening.HasBytes path)))
    loaded marked checked same is = absurd is.is
read_fault_tells texts known Taken Missing base held marks (job.Found (refusal.Journal (opening.Kept why)))
    loaded marked checked same is =
    over_texts texts known base held marks (job.Found (refusal.Journal (opening.Kept why))) loaded marked checked
    same is
read_fault_tells texts known Taken Missing base held marks (job.Found (refusal.Journal (opening.Replay why)))
    loaded marked checked same is =
    over_texts texts known base held marks (job.Found (refusal.Journal (opening.Replay why))) loaded marked
    checked same is
read_fault_tells texts known Taken Missing base held marks (job.Found (refusal.CannotWrite path))
    loaded marked checked same is = absurd is.is
read_fault_tells texts known Taken Missing base held marks (job.Found (refusal.Folder why))
    loaded marked checked same is = absurd is.is
read_fault_tells texts known Taken Missing base held marks (job.Found (refusal.Commit why))
    loaded marked checked same is = absurd is.is

-- What the faults of reading a journal's file tell.
use Rattle.std.proofs.Common.{◌≡◌, ◌<◌, ◌+◌, ℕ, zero, suc, List, [], ◌∷◌, ◌++◌, length, take, Option, ap, subst, refl}
use Rattle.std.proofs.Common.{sym, arith, slice_get, inl, inr}
use Rattle.std.specs.Prelude.{IfSome, None, Some}
use Rattle.journal.specs.Disk.{BeginsAsRead}
use Rattle.journal.specs.Groups.{recovered}
use Rattle.journal_opening.proofs.KnownLaws.{file_read}
use Rattle.journal_opening.specs.Kept.{HasCommits, IsKnown}
use Rattle.journal_opening.specs.Marks.{AreMarks, HaveChecksums}
use Rattle.journal_opening.specs.declared.fault.OpeningFault.TheVariants as opening
use Rattle.row_store.specs.History.{CommitRecord}
use Rattle.row_store.specs.Legal.{IsLegal}
use Rattle.row_store.specs.Refusals.{refusal_of}
use Rattle.ssb_base.specs.Base.{Tables}
use Rattle.ssb_files.specs.Loaded.{IsLoadedToServe}
use Rattle.ssb_files.specs.Status.{status_of}
use Rattle.ssb_files.specs.declared.fault.Fault.{Fault}
use Rattle.ssb_files.specs.declared.job.JobFault.{JobFault}
use Rattle.ssb_files.specs.declared.job.JobFault.TheVariants as job
use Rattle.ssb_journal.specs.Kept.{BeginsWithCommits}
use Rattle.ssb_journal.specs.Opening.{IsKept}
use Rattle.ssb_journal.specs.Replays.{IsReplayFault}
use Rattle.ssb_journal.specs.declared.head.TableMark.{TableMark}
use Rattle.ssb_journal.specs.declared.kept.KeptCommits.{KeptCommits}
use Rattle.ssb_journal.specs.declared.replaying.ReplayFault.{ReplayFault}
use Rattle.ssb_journal.specs.declared.replaying.ReplayFault.TheVariants as replay
use Rattle.ssb_schema.specs.declared.table.Table.{Table}
use Rattle.changes_command.specs.Written.{IsCommitsFault, IsFileRefusal, IsTooEarly, IsTooFar, TellsChangesFault}
use Rattle.changes_command.specs.Written.{TellsFileFault, TellsOverTexts}
use Rattle.changes_command.specs.declared.fault.ChangesRefusal.{ChangesRefusal}
use Rattle.changes_command.specs.declared.fault.ChangesRefusal.TheVariants as refusal
use Rattle.changes_command.specs.declared.signed.ChangesStart.{ChangesStart}

-- a file that is refused as it is read, or whose commits are
pub refused_reading : (base : Tables) (marks : List TableMark) (known now : Option (List ℕ)) (taken : List ℕ)
    (Ended : Type 0) (past : ℕ) (start : ChangesStart) (why : JobFault ChangesRefusal) → now ≡ known
    → IfSome now (BeginsAsRead taken Ended)
    → ((file : List ℕ) → BeginsAsRead taken Ended file → TellsFileFault base marks file past start why)
    → IsFileRefusal base marks known past start why
refused_reading base marks known now taken Ended past start why same as_known tells =
    let read = file_read now taken Ended as_known in
    record {
      file = read.file;
      is_file = subst (λ k. IsKnown k read.file) same read.is_file;
      told = tells read.file read.begins;
    }

-- what is told of any file is told of the known one, where one is known
of_any : (base : Tables) (marks : List TableMark) (known : Option (List ℕ)) (past : ℕ) (start : ChangesStart)
    (why : JobFault ChangesRefusal) → ((file : List ℕ) → TellsFileFault base marks file past start why)
    → IsFileRefusal base marks known past start why
of_any base marks None past start why tells = record { file = []; is_file = tt; told = tells [] }
of_any base marks (Some file) past start why tells = record { file = file; is_file = refl; told = tells file }

-- that a call failed, or memory ran out, tells nothing of a file
pub call_failed : (base : Tables) (marks : List TableMark) (known : Option (List ℕ)) (past : ℕ) (start : ChangesStart)
    (why : Fault) → status_of why ≡ 4 → IsFileRefusal base marks known past start (job.Program why)
call_failed base marks known past start why four = of_any base marks known past start (job.Program why) (λ file. four)

-- nor does a commit that came before the file's
tells_early : (base : Tables) (marks : List TableMark) (past : ℕ) (start : ChangesStart) (why : JobFault ChangesRefusal)
    → IsTooEarly past start why → (file : List ℕ) → TellsFileFault base marks file past start why
tells_early base marks past start (job.Program why) is file = absurd is
tells_early base marks past start (job.Found (refusal.Journal why)) is file = absurd is
tells_early base marks past start (job.Found (refusal.Commit why)) is file = (is.0, inl is.1)

pub too_early : (base : Tables) (marks : List TableMark) (known : Option (List ℕ)) (past : ℕ) (start : ChangesStart)
    (why : JobFault ChangesRefusal) → IsTooEarly past start why → IsFileRefusal base marks known past start why
too_early base marks known past start why is =
    of_any base marks known past start why (tells_early base marks past start why is)

-- the fault of commits that a file begins with
pub of_commits : (base : Tables) (marks : List TableMark) (file : List ℕ) (past : ℕ) (start : ChangesStart)
    (commits : List CommitRecord) (why : JobFault ChangesRefusal) → BeginsWithCommits marks commits file
    → IsCommitsFault base commits why → TellsFileFault base marks file past start why
of_commits base marks file past start commits (job.Program why) begins is = is
of_commits base marks file past start commits (job.Found (refusal.Journal (opening.Replay why))) begins is =
    (commits, begins, is)
of_commits base marks file past start commits (job.Found (refusal.Journal (opening.Kept why))) begins is = absurd is
of_commits base marks file past start commits (job.Found (refusal.Journal (opening.File why))) begins is = absurd is
of_commits base marks file past start commits (job.Found (refusal.Journal (opening.HasBytes path))) begins is =
    absurd is
of_commits base marks file past start commits (job.Found (refusal.Commit why)) begins is = absurd is

-- the first commit of some that is refused is the first of more
there_of_more : {X : Type 0} (xs more : List X) (i : ℕ) (x : X) → slice_get xs i ≡ Some x
    → (slice_get (xs ++ more) i ≡ Some x) × (take i (xs ++ more) ≡ take i xs)
there_of_more [] more i x at = absurd (cc)
there_of_more (y ∷ xs) more zero x at = (at, refl)
there_of_more (y ∷ xs) more (suc i) x at =
    let rest = there_of_more xs more i x at in (rest.0, ap (λ l. y ∷ l) rest.1)

pub refused_of_more : (base : Tables) (commits more : List CommitRecord) (why : ReplayFault)
    → IsReplayFault base commits why → IsReplayFault base (commits ++ more) why
refused_of_more base commits more replay.OutOfMemory is = tt
refused_of_more base commits more (replay.Refused number action cause) is =
    let there = there_of_more commits more is.place is.commit is.is in
    record {
      place = is.place;
      numbered = is.numbered;
      commit = is.commit;
      is = there.0;
      legal = subst (λ front. IsLegal base front) (sym there.1) is.legal;
      refused = subst (λ front. refusal_of base front is.commit.actions ≡ Some (record {
        action = action;
        cause = cause;
      })) (sym there.1) is.refused;
    }

-- commits that are fewer than come before those that are asked for
pub of_count : (base : Tables) (marks : List TableMark) (file : List ℕ) (past : ℕ) (start : ChangesStart)
    (commits : List CommitRecord) (after : ℕ) (why : JobFault ChangesRefusal) → HasCommits marks commits file
    → after ≡ past + length commits → IsTooFar start after why → TellsFileFault base marks file past start why
of_count base marks file past start commits after (job.Program why) has many is = absurd is
of_count base marks file past start commits after (job.Found (refusal.Journal why)) has many is = absurd is
of_count base marks file past start commits after (job.Found (refusal.Commit why)) has many is =
    (is.0, inr (commits, has, subst (λ n. n < why.number) many is.1))

-- the commits that a file has, which was read to its end
pub has_kept : (marks : List TableMark) (file : List ℕ) (kept : KeptCommits) → IsKept marks (recovered file) kept
    → HasCommits marks kept.commits.items file
has_kept marks file kept (inl new) = grind arith
has_kept marks file kept (inr is) = grind arith

-- what a fault of reading tells of the texts
over_texts : (texts : Table → List ℕ) (known : Option (List ℕ)) (base held : Tables) (marks : List TableMark)
    (past : ℕ) (start : ChangesStart) (why : JobFault ChangesRefusal) → IsLoadedToServe texts base
    → AreMarks base marks → HaveChecksums texts marks → held ≡ base → IsFileRefusal held marks known past start why
    → TellsOverTexts texts known past start why
over_texts texts known base held marks past start why loaded marked checked same is = record {
  base = base;
  loaded = loaded;
  marks = marks;
  marked = marked;
  checked = checked;
  refused = subst (λ (b : Tables). IsFileRefusal b marks known past start why) same is;
}

pub read_fault_tells : (texts : Table → List ℕ) (known : Option (List ℕ)) (Taken Missing : Type 0) (base held : Tables)
    (marks : List TableMark) (past : ℕ) (start : ChangesStart) (why : JobFault ChangesRefusal)
    → IsLoadedToServe texts base → AreMarks base marks → HaveChecksums texts marks → held ≡ base
    → IsFileRefusal held marks known past start why → TellsChangesFault texts known Taken Missing past start why
read_fault_tells texts known Taken Missing base held marks past start (job.Program why) loaded marked checked same is =
    λ one. absurd (omega (arith, is.told, one))
read_fault_tells texts known Taken Missing base held marks past start (job.Found (refusal.Journal (opening.File why)))
    loaded marked checked same is = absurd is.told
read_fault_tells texts known Taken Missing base held marks past start
    (job.Found (refusal.Journal (opening.HasBytes path))) loaded marked checked same is = absurd is.told
read_fault_tells texts known Taken Missing base held marks past start (job.Found (refusal.Journal (opening.Kept why)))
    loaded marked checked same is =
    over_texts texts known base held marks past start (job.Found (refusal.Journal (opening.Kept why))) loaded marked
    checked same is
read_fault_tells texts known Taken Missing base held marks past start (job.Found (refusal.Journal (opening.Replay why)))
    loaded marked checked same is =
    over_texts texts known base held marks past start (job.Found (refusal.Journal (opening.Replay why))) loaded marked
    checked same is
read_fault_tells texts known Taken Missing base held marks past start (job.Found (refusal.Commit why)) loaded marked
    checked same is =
    over_texts texts known base held marks past start (job.Found (refusal.Commit why)) loaded marked checked same is

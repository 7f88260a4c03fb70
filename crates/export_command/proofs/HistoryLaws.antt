-- The first commits of a journal's file, and the tables after them.
use Rattle.std.proofs.Common.{◌≡◌, ◌∙◌, ◌<◌, ◌≤◌, ◌+◌, ◌-◌, ℕ, zero, suc, true, false, List, [], ◌∷◌, ◌++◌, length, take, drop}
use Rattle.std.proofs.Common.{Option, Some, None, slice_get, refl, sym, ap, subst, arith, append-nil, inl, inr}
use Rattle.std.specs.Prelude.{IfSome}
use Rattle.std.proofs.Math.Seq.{take-append-add}
use Rattle.std.proofs.lemmas.Bool.Decides.{nat_tests}
use Rattle.std.proofs.lemmas.List.{length-take, take-append-drop, take-append-le, take_all, take_min}
use Rattle.std.proofs.lemmas.Option.{slice_get_within}
use Rattle.journal.specs.Disk.{BeginsAsRead}
use Rattle.journal.specs.Groups.{recovered}
use Rattle.journal_file.specs.declared.file_disk.OpenError.{OpenError}
use Rattle.journal_file.specs.declared.file_disk.OpenError.TheVariants as open_error
use Rattle.journal_opening.proofs.KnownLaws.{file_read}
use Rattle.journal_opening.specs.Kept.{HasCommits, IsKnown}
use Rattle.journal_opening.specs.Marks.{AreMarks, HaveChecksums}
use Rattle.journal_opening.specs.Opens.{TellsMissing}
use Rattle.journal_opening.specs.declared.fault.OpeningFault.TheVariants as opening
use Rattle.row_store.specs.History.{CommitRecord, Warehouse}
use Rattle.row_store.specs.Legal.{IsLegal}
use Rattle.row_store.specs.Refusals.{refusal_of}
use Rattle.ssb_base.specs.Base.{Tables}
use Rattle.ssb_files.specs.Loaded.{IsLoadedToServe}
use Rattle.ssb_files.specs.Status.{status_of}
use Rattle.ssb_files.specs.declared.fault.Fault.{Fault}
use Rattle.ssb_files.specs.declared.job.JobFault.{JobFault}
use Rattle.ssb_files.specs.declared.job.JobFault.TheVariants as job
use Rattle.ssb_journal.specs.Kept.{BeginsWithCommits, SpellCommits}
use Rattle.ssb_journal.specs.Opening.{IsKept}
use Rattle.ssb_journal.specs.Replays.{IsReplayFault}
use Rattle.ssb_journal.specs.declared.head.TableMark.{TableMark}
use Rattle.ssb_journal.specs.declared.kept.KeptCommits.{KeptCommits}
use Rattle.ssb_journal.specs.declared.replaying.ReplayFault.{ReplayFault}
use Rattle.ssb_journal.specs.declared.replaying.ReplayFault.TheVariants as replay
use Rattle.ssb_schema.specs.declared.table.Table.{Table}
use Rattle.export_command.specs.After.{tables_after}
use Rattle.export_command.specs.Exported.{IsJournalRefusal, IsReadFault, TellsJournalFault}
use Rattle.export_command.specs.Histories.{AreTablesAt, AreThere, HasFirst, IsBatchFault}
use Rattle.export_command.specs.Histories.{IsHistoryOf, IsHistoryRefusal, IsMost, IsRefusalOver, IsTooEarly, IsWithin}
use Rattle.export_command.specs.Histories.{TellsHistoryFault, TellsSourceFault, count_of_next, first_of, reaches}
use Rattle.export_command.specs.declared.fault.ExportRefusal.{ExportRefusal}
use Rattle.export_command.specs.declared.fault.ExportRefusal.TheVariants as refusal
use Rattle.export_command.proofs.ExportLaws.{lacks_memory}

-- the next commits that are asked for, behind those before, are the first of all
pub more_made : (most : Option ℕ) (old batch : List CommitRecord) → IsWithin most (length old)
    → old ++ take (count_of_next most (length old) (length batch)) batch ≡ first_of most (old ++ batch)
more_made None old batch within = ap (λ l. old ++ l) (take_all (length batch) batch (omega arith))
more_made (Some most) old batch within =
    let whole : length old + (most - length old) ≡ most = omega (arith, within) in
    ap (λ l. old ++ l) (take_min (most - length old) batch)
    ∙ sym (take-append-add old batch (most - length old))
    ∙ ap (λ n. take n (old ++ batch)) whole

-- where fewer were made than are asked for, they are all
pub all_made : (most : Option ℕ) (commits : List CommitRecord)
    → reaches most (length (first_of most commits)) ≡ false
    → (first_of most commits ≡ commits) × IsWithin most (length commits)
all_made None commits fewer = (refl, tt)
all_made (Some most) commits fewer =
    let less : length (take most commits) < most = grind (arith, nat_tests, fewer) in
    let few : length commits ≤ most = omega (arith, less, length-take most commits) in
    (take_all most commits few, few)

-- the commits of a row store after so many of the next ones
pub made_first : (most : Option ℕ) (base : Tables) (store new : Warehouse) (old next batch items : List CommitRecord)
    (count made len : ℕ) → store ≡ record { base = base; log = old } → next ≡ old ++ items → batch ≡ items
    → made ≡ length store.log → len ≡ length items → IsWithin most (length old) → count ≡ count_of_next most made len
    → new ≡ record { base = store.base; log = store.log ++ take count batch }
    → new ≡ record { base = base; log = first_of most next }
made_first most base store new old next batch items count made len is all same made_is len_is within counted new_is =
    let so_many : count ≡ count_of_next most (length old) (length items) =
    counted ∙ ap (λ n. count_of_next most n len) (made_is ∙ ap (λ (s : Warehouse). length s.log) is)
    ∙ ap (count_of_next most (length old)) len_is in
    let log : store.log ++ take count batch ≡ first_of most next =
    ap (λ (s : Warehouse). s.log ++ take count batch) is ∙ ap (λ b. old ++ take count b) same
    ∙ ap (λ n. old ++ take n items) so_many ∙ more_made most old items within ∙ ap (first_of most) (sym all) in
    new_is ∙ (λ i. record { base = (ap (λ (s : Warehouse). s.base) is) i; log = log i })

at_front : (front back : List CommitRecord) (i : ℕ) (commit : CommitRecord) → slice_get front i ≡ Some commit
    → slice_get (front ++ back) i ≡ Some commit
at_front [] back i commit at = absurd cc
at_front (first ∷ front) back zero commit at = at
at_front (first ∷ front) back (suc i) commit at = at_front front back i commit at

-- why commits are no history is why others behind them are none
longer_fault : (base : Tables) (commits more : List CommitRecord) (why : ReplayFault)
    → IsReplayFault base commits why → IsReplayFault base (commits ++ more) why
longer_fault base commits more (replay.Refused number action cause) is =
    let front : take is.place (commits ++ more) ≡ take is.place commits =
    take-append-le is.place commits more (omega (arith, slice_get_within commits is.place is.commit is.is)) in
    record {
      place = is.place;
      numbered = is.numbered;
      commit = is.commit;
      is = at_front commits more is.place is.commit is.is;
      legal = subst (IsLegal base) (sym front) is.legal;
      refused = subst (λ l. refusal_of base l is.commit.actions
          ≡ Some (record { action = action; cause = cause })) (sym front) is.refused;
    }
longer_fault base commits more replay.OutOfMemory is = tt

-- what is told of commits with which a file begins, and others behind them
pub batch_tells : (base : Tables) (marks : List TableMark) (file : List ℕ) (commits more : List CommitRecord)
    (why : JobFault ExportRefusal) → BeginsWithCommits marks (commits ++ more) file → IsBatchFault base commits why
    → TellsJournalFault base marks file why
batch_tells base marks file commits more (job.Program why) begins is = tt
batch_tells base marks file commits more (job.Found (refusal.Journal (opening.Replay why))) begins is =
    (commits ++ more, begins, longer_fault base commits more why is)
batch_tells base marks file commits more (job.Found (refusal.Journal (opening.Kept why))) begins is = absurd is
batch_tells base marks file commits more (job.Found (refusal.Journal (opening.File why))) begins is = absurd is
batch_tells base marks file commits more (job.Found (refusal.Journal (opening.HasBytes path))) begins is = absurd is
batch_tells base marks file commits more (job.Found (refusal.Commit why)) begins is = absurd is
batch_tells base marks file commits more (job.Found (refusal.Folder why)) begins is = absurd is
batch_tells base marks file commits more (job.Found (refusal.CannotWrite path)) begins is = absurd is

pub batch_is : (base : Tables) (commits : List CommitRecord) (why : JobFault ExportRefusal)
    → IsBatchFault base commits why → IsReadFault why
batch_is base commits (job.Program why) is = is
batch_is base commits (job.Found (refusal.Journal (opening.Replay why))) is = tt
batch_is base commits (job.Found (refusal.Journal (opening.Kept why))) is = absurd is
batch_is base commits (job.Found (refusal.Journal (opening.File why))) is = absurd is
batch_is base commits (job.Found (refusal.Journal (opening.HasBytes path))) is = absurd is
batch_is base commits (job.Found (refusal.Commit why)) is = absurd is
batch_is base commits (job.Found (refusal.Folder why)) is = absurd is
batch_is base commits (job.Found (refusal.CannotWrite path)) is = absurd is

-- why there are no tables after all commits is why there are none after the first ones
tells_history : (base : Tables) (marks : List TableMark) (past : ℕ) (at : Option ℕ) (file : List ℕ)
    (why : JobFault ExportRefusal) → TellsJournalFault base marks file why → IsReadFault why
    → TellsHistoryFault base marks past at file why
tells_history base marks past at file (job.Program why) told is = is
tells_history base marks past at file (job.Found (refusal.Journal (opening.Kept why))) told is = told
tells_history base marks past at file (job.Found (refusal.Journal (opening.Replay why))) told is = told
tells_history base marks past at file (job.Found (refusal.Journal (opening.File why))) told is = absurd is
tells_history base marks past at file (job.Found (refusal.Journal (opening.HasBytes path))) told is = absurd is
tells_history base marks past at file (job.Found (refusal.Commit why)) told is = absurd is
tells_history base marks past at file (job.Found (refusal.Folder why)) told is = absurd is
tells_history base marks past at file (job.Found (refusal.CannotWrite path)) told is = absurd is

pub history_refused : (base : Tables) (marks : List TableMark) (known : Option (List ℕ)) (past : ℕ) (at : Option ℕ)
    (why : JobFault ExportRefusal) → IsJournalRefusal base marks known why
    → IsHistoryRefusal base marks known past at why
history_refused base marks known past at why is = record {
  file = is.file;
  is_file = is.is_file;
  told = tells_history base marks past at is.file why is.told is.is;
}

pub memory_lacks : (base : Tables) (marks : List TableMark) (known : Option (List ℕ)) (past : ℕ) (at : Option ℕ)
    (why : Fault) → status_of why ≡ 4 → IsHistoryRefusal base marks known past at (job.Program why)
memory_lacks base marks known past at why four =
    history_refused base marks known past at (job.Program why) (lacks_memory base marks known why four)

-- a commit that came before a journal's is in none of its files
early_told : (base : Tables) (marks : List TableMark) (past : ℕ) (at : Option ℕ) (file : List ℕ)
    (why : JobFault ExportRefusal) → IsTooEarly past at why → TellsHistoryFault base marks past at file why
early_told base marks past at file (job.Program why) is = absurd is
early_told base marks past at file (job.Found (refusal.Commit why)) is = (is.0, inl is.1)
early_told base marks past at file (job.Found (refusal.Journal why)) is = absurd is
early_told base marks past at file (job.Found (refusal.Folder why)) is = absurd is
early_told base marks past at file (job.Found (refusal.CannotWrite path)) is = absurd is

pub too_early : (base : Tables) (marks : List TableMark) (known : Option (List ℕ)) (past : ℕ) (at : Option ℕ)
    (why : JobFault ExportRefusal) → IsTooEarly past at why → IsHistoryRefusal base marks known past at why
too_early base marks None past at why is = record {
  file = [];
  is_file = tt;
  told = early_told base marks past at [] why is;
}
too_early base marks (Some file) past at why is = record {
  file = file;
  is_file = refl;
  told = early_told base marks past at file why is;
}

-- the commits that were read of a whole file are those that it has
pub has_kept : (marks : List TableMark) (file : List ℕ) (kept : KeptCommits) → IsKept marks (recovered file) kept
    → HasCommits marks kept.commits.items file
has_kept marks file kept (inl new) = inr (new.1, new.2)
has_kept marks file kept (inr is) =
    let are = is.1 in
    inl (record { texts = are.texts; is_journal = (kept.form, are.sealed); spelled = are.spelled })

-- a file that has commits has the first of them first
has_first : (marks : List TableMark) (commits : List CommitRecord) (file : List ℕ) (count : ℕ)
    → HasCommits marks commits file → HasFirst marks (take count commits) file
has_first marks commits file count (inl keeps) =
    inl (
      drop count commits,
      record {
        first = recovered file;
        more = [];
        groups = sym (append-nil (recovered file));
        form = keeps.is_journal.0;
        texts = keeps.texts;
        sealed = keeps.is_journal.1;
        spelled = subst (SpellCommits keeps.texts) (sym (take-append-drop count commits)) keeps.spelled;
      },
    )
has_first marks commits file count (inr none) =
    inr (inr (none.0, ap (take count) none.1 ∙ take_all count [] (omega arith)))

-- a file that was read to its end, with as many commits as are asked for
pub whole_there : (marks : List TableMark) (known : Option (List ℕ)) (past number : ℕ) (most : Option ℕ)
    (commits : List CommitRecord) (file : List ℕ) (after : ℕ) → IsMost past (Some number) most → IsKnown known file
    → HasCommits marks commits file → after ≡ past + length (first_of most commits) → number ≤ after
    → AreThere marks known past (Some number) (first_of most commits) after
whole_there marks known past number None commits file after is is_file has many reached = absurd is
whole_there marks known past number (Some most) commits file after is is_file has many reached = record {
  file = file;
  is_file = is_file;
  has = has_first marks commits file most has;
  so_many = many;
  up_to = omega (arith, is, many, reached, length-take most commits);
}

-- one that was read until as many were made again
pub part_there : (marks : List TableMark) (known : Option (List ℕ)) (past : ℕ) (at most : Option ℕ)
    (commits : List CommitRecord) (taken : List ℕ) (Ended : Type 0) (after : ℕ) → IsMost past at most
    → reaches most (length commits) ≡ true → IfSome known (BeginsAsRead taken Ended)
    → ((file : List ℕ) → BeginsAsRead taken Ended file → BeginsWithCommits marks commits file)
    → after ≡ past + length (first_of most commits) → AreThere marks known past at (first_of most commits) after
part_there marks known past None None commits taken Ended after is enough as_known begins many = absurd cc
part_there marks known past None (Some most) commits taken Ended after is enough as_known begins many = absurd cc
part_there marks known past (Some number) None commits taken Ended after is enough as_known begins many = absurd is
part_there marks known past (Some number) (Some most) commits taken Ended after is enough as_known begins many =
    let read = file_read known taken Ended as_known in
    let reached : most ≤ length commits = grind (arith, nat_tests, enough) in
    record {
      file = read.file;
      is_file = read.is_file;
      has = inl (
        drop most commits,
        subst (λ all. BeginsWithCommits marks all read.file) (sym (take-append-drop most commits))
            (begins read.file read.begins),
      );
      so_many = many;
      up_to = omega (arith, is, many, reached, length-take most commits);
    }

-- one that was read to its end, with fewer
pub too_few : (base : Tables) (marks : List TableMark) (known : Option (List ℕ)) (past number : ℕ) (most : Option ℕ)
    (commits : List CommitRecord) (file : List ℕ) (after : ℕ) → IsMost past (Some number) most → IsKnown known file
    → HasCommits marks commits file → after ≡ past + length (first_of most commits) → after < number
    → IsHistoryRefusal base marks known past (Some number)
    (job.Found (refusal.Commit (record { number = number })))
too_few base marks known past number None commits file after is is_file has many fewer = absurd is
too_few base marks known past number (Some most) commits file after is is_file has many fewer = record {
  file = file;
  is_file = is_file;
  told = (refl, inr (commits, has, omega (arith, is, many, fewer, length-take most commits)));
}

-- the tables after the commits that were made again
pub tables_at : (base : Tables) (marks head : List TableMark) (known now : Option (List ℕ)) (past : ℕ) (at : Option ℕ)
    (tables : Tables) (store : Warehouse) (commits : List CommitRecord) (after : ℕ)
    → store ≡ record { base = base; log = commits } → head ≡ marks → now ≡ known
    → AreThere head now past at commits after → IsLegal store.base store.log
    → tables ≡ tables_after store.base store.log → AreTablesAt base marks known past at tables after
tables_at base marks head known now past at tables store commits after is marked same there legal are = record {
  commits = commits;
  there = subst (λ m. AreThere m known past at commits after) marked
      (subst (λ k. AreThere head k past at commits after) same there);
  legal = subst (λ (w : Warehouse). IsLegal w.base w.log) is legal;
  are = are ∙ ap (λ (w : Warehouse). tables_after w.base w.log) is;
}

over_texts : (texts : Table → List ℕ) (known : Option (List ℕ)) (past : ℕ) (at : Option ℕ) (base held : Tables)
    (marks : List TableMark) (why : JobFault ExportRefusal) → IsLoadedToServe texts base → AreMarks base marks
    → HaveChecksums texts marks → held ≡ base → IsHistoryRefusal held marks known past at why
    → IsRefusalOver texts known past at why
over_texts texts known past at base held marks why loaded marked checked same is = record {
  base = base;
  loaded = loaded;
  marks = marks;
  marked = marked;
  checked = checked;
  refused = subst (λ (b : Tables). IsHistoryRefusal b marks known past at why) same is;
}

-- what is told of the texts and of the journal's file, where its commits are not at hand
pub refusal_tells : (texts : Table → List ℕ) (known : Option (List ℕ)) (Taken Missing : Type 0) (past : ℕ)
    (at : Option ℕ) (base held : Tables) (marks : List TableMark) (why : JobFault ExportRefusal)
    → IsLoadedToServe texts base → AreMarks base marks → HaveChecksums texts marks → held ≡ base
    → IsHistoryRefusal held marks known past at why → TellsSourceFault texts known Taken Missing past at why
refusal_tells texts known Taken Missing past at base held marks (job.Program why) loaded marked checked same is =
    λ one. absurd (omega (arith, is.told, one))
refusal_tells texts known Taken Missing past at base held marks (job.Found (refusal.Journal (opening.File why)))
    loaded marked checked same is = absurd is.told
refusal_tells texts known Taken Missing past at base held marks (job.Found (refusal.Journal (opening.HasBytes path)))
    loaded marked checked same is = absurd is.told
refusal_tells texts known Taken Missing past at base held marks (job.Found (refusal.Journal (opening.Kept why)))
    loaded marked checked same is =
    over_texts texts known past at base held marks (job.Found (refusal.Journal (opening.Kept why))) loaded marked
    checked same is
refusal_tells texts known Taken Missing past at base held marks (job.Found (refusal.Journal (opening.Replay why)))
    loaded marked checked same is =
    over_texts texts known past at base held marks (job.Found (refusal.Journal (opening.Replay why))) loaded marked
    checked same is
refusal_tells texts known Taken Missing past at base held marks (job.Found (refusal.Commit why))
    loaded marked checked same is =
    over_texts texts known past at base held marks (job.Found (refusal.Commit why)) loaded marked checked same is
refusal_tells texts known Taken Missing past at base held marks (job.Found (refusal.CannotWrite path))
    loaded marked checked same is = absurd is.told
refusal_tells texts known Taken Missing past at base held marks (job.Found (refusal.Folder why))
    loaded marked checked same is = absurd is.told

pub opening_tells : (texts : Table → List ℕ) (known : Option (List ℕ)) (Taken Missing : Type 0) (past : ℕ)
    (at : Option ℕ) (why : OpenError) → (why ≡ open_error.InUse → Taken) → TellsMissing Missing why
    → TellsSourceFault texts known Taken Missing past at (job.Found (refusal.Journal (opening.File why)))
opening_tells texts known Taken Missing past at open_error.InUse taken missing = taken refl
opening_tells texts known Taken Missing past at (open_error.NoJournal told) taken missing = missing
opening_tells texts known Taken Missing past at (open_error.Io error) taken missing = tt

-- the tables over the texts that spell their base
pub history_of : (AreTheirs : (Table → List ℕ) → Type 0) (known : Option (List ℕ)) (past : ℕ) (at : Option ℕ)
    (base held : Tables) (marks : List TableMark) (tables now : Tables) (after : ℕ)
    → ((texts : Table → List ℕ) → AreTheirs texts → IsLoadedToServe texts base) → AreMarks base marks
    → ((texts : Table → List ℕ) → AreTheirs texts → HaveChecksums texts marks) → held ≡ base → now ≡ tables
    → AreTablesAt held marks known past at tables after → IsHistoryOf AreTheirs known past at now after
history_of AreTheirs known past at base held marks tables now after loaded marked checked same are is = record {
  base = base;
  loaded = loaded;
  marks = marks;
  marked = marked;
  checked = checked;
  are = subst (λ (t : Tables). AreTablesAt base marks known past at t after) (sym are)
      (subst (λ (b : Tables). AreTablesAt b marks known past at tables after) same is);
}

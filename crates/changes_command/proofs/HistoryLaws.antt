-- What was written of a journal's file that was read to its end.
use Rattle.std.proofs.Common.{◌≡◌, ◌∙◌, ◌+◌, ◌++◌, ℕ, List, length, Option, ap, subst, sym}
use Rattle.std.specs.Io.KnownBytes.{Appends, Keeps}
use Rattle.journal.specs.Groups.{recovered}
use Rattle.journal_opening.specs.Kept.{IsKnown}
use Rattle.journal_opening.specs.Marks.{AreMarks, HaveChecksums}
use Rattle.row_store.specs.History.{CommitRecord, Warehouse}
use Rattle.row_store.specs.Legal.{IsLegal}
use Rattle.ssb_base.specs.Base.{Tables}
use Rattle.ssb_files.proofs.FlushedLaws.{appended_kept}
use Rattle.ssb_files.specs.Loaded.{IsLoadedToServe}
use Rattle.ssb_files.specs.declared.job.JobFault.{JobFault}
use Rattle.ssb_journal.specs.Opening.{IsKept}
use Rattle.ssb_journal.specs.declared.head.TableMark.{TableMark}
use Rattle.ssb_journal.specs.declared.kept.KeptCommits.{KeptCommits}
use Rattle.ssb_schema.specs.declared.table.Table.{Table}
use Rattle.ssb_text.proofs.WrittenLaws.{appends_both}
use Rattle.changes_command.specs.Signed.{asked_of, changes_behind, signed, signed_lines}
use Rattle.changes_command.specs.SignedText.{changes_text, heads_text, lines_text}
use Rattle.changes_command.specs.Written.{BeginsBehind, ChangesUpTo, IsFileRefusal, IsTooFar, IsWrittenUpTo, Reaches}
use Rattle.changes_command.specs.declared.format.ChangesFormat.{ChangesFormat}
use Rattle.changes_command.specs.declared.fault.ChangesRefusal.{ChangesRefusal}
use Rattle.changes_command.specs.declared.signed.ChangesStart.{ChangesStart}
use Rattle.changes_command.specs.declared.signed.Sign.TheVariants.{Came}
use Rattle.changes_command.proofs.AskedLaws.{asked_text}
use Rattle.changes_command.proofs.FaultLaws.{has_kept, of_count}

-- the heads, the loaded lines, and then what all commits change
pub all_written : (format : ChangesFormat) (start : ChangesStart) (past : ℕ) (base : Tables)
    (commits : List CommitRecord) (a h b e : Option (List ℕ)) → Appends a h (heads_text format)
    → Appends h b (lines_text format (asked_of start (signed past Came base.lines)))
    → Appends b e (lines_text format (asked_of start (changes_behind past base.lines commits)))
    → Appends a e (changes_text format (asked_of start (signed_lines past base commits)))
all_written format start past base commits a h b e heads loaded changed =
    let lines = lines_text format (asked_of start (signed past Came base.lines)) in
    let more = lines_text format (asked_of start (changes_behind past base.lines commits)) in
    subst (λ text. Appends a e (heads_text format ++ text))
    (sym (asked_text format start (signed past Came base.lines) (changes_behind past base.lines commits)))
    (appends_both a h e (heads_text format) (lines ++ more) heads (appends_both h b e lines more loaded changed))

-- the row store that made commits again, over the tables that were loaded
pub store_of : (base held : Tables) (log commits : List CommitRecord) (store : Warehouse)
    → store ≡ record { base = held; log = log } → held ≡ base → log ≡ commits
    → store ≡ record { base = base; log = commits }
store_of base held log commits store is same all = is ∙ (λ i. record { base = same i; log = all i })

-- with those that came before, the commits of a row store are as many as those of the file
so_many : (base : Tables) (past after len : ℕ) (kept : KeptCommits) (store : Warehouse)
    → store ≡ record { base = base; log = kept.commits.items } → len ≡ length store.log → after ≡ past + len
    → after ≡ past + length kept.commits.items
so_many base past after len kept store is counted with_them =
    with_them ∙ ap (λ n. past + n) (counted ∙ ap (λ (s : Warehouse). length s.log) is)

pub is_written : (format : ChangesFormat) (base : Tables) (marks : List TableMark) (file : List ℕ) (past : ℕ)
    (start : ChangesStart) (kept : KeptCommits) (store : Warehouse) (len after : ℕ) (a h b e : Option (List ℕ))
    → store ≡ record { base = base; log = kept.commits.items } → IsKept marks (recovered file) kept
    → IsLegal store.base store.log → len ≡ length store.log → after ≡ past + len → BeginsBehind past start
    → Reaches start after → Appends a h (heads_text format)
    → Appends h b (lines_text format (asked_of start (signed past Came base.lines)))
    → Appends b e (lines_text format (asked_of start (changes_behind past base.lines kept.commits.items)))
    → IsWrittenUpTo base marks file past start format after a e
is_written format base marks file past start kept store len after a h b e is keeps legal counted with_them begins reaches
    heads loaded changed =
    let many = so_many base past after len kept store is counted with_them in (
      record {
        commits = kept.commits.items;
        has = has_kept marks file kept keeps;
        legal = subst (λ (s : Warehouse). IsLegal s.base s.log) is legal;
        begins = begins;
        reaches = subst (Reaches start) many reaches;
        written = all_written format start past base kept.commits.items a h b e heads loaded changed;
      },
      many,
    )

pub too_far : (base : Tables) (marks : List TableMark) (known : Option (List ℕ)) (file : List ℕ) (past : ℕ)
    (start : ChangesStart) (kept : KeptCommits) (store : Warehouse) (len after : ℕ) (why : JobFault ChangesRefusal)
    → IsKnown known file → IsKept marks (recovered file) kept
    → store ≡ record { base = base; log = kept.commits.items } → len ≡ length store.log → after ≡ past + len
    → IsTooFar start after why → IsFileRefusal base marks known past start why
too_far base marks known file past start kept store len after why is_file keeps is counted with_them far = record {
  file = file;
  is_file = is_file;
  told = of_count base marks file past start kept.commits.items after why (has_kept marks file kept keeps)
      (so_many base past after len kept store is counted with_them) far;
}

-- over the tables that were loaded
pub changes_of : (format : ChangesFormat) (texts : Table → List ℕ) (known : Option (List ℕ)) (base held : Tables)
    (marks : List TableMark) (file : List ℕ) (past : ℕ) (start : ChangesStart) (after : ℕ) (a b e : Option (List ℕ))
    → IsLoadedToServe texts base → AreMarks base marks → HaveChecksums texts marks → IsKnown known file → held ≡ base
    → IsWrittenUpTo held marks file past start format after a b → Keeps b e
    → ChangesUpTo texts known past start format after a e
changes_of format texts known base held marks file past start after a b e loaded marked checked is_file same up_to kept =
    let moved : IsWrittenUpTo base marks file past start format after a e =
    subst (λ (t : Tables). IsWrittenUpTo t marks file past start format after a e) same (
      record {
        commits = up_to.0.commits;
        has = up_to.0.has;
        legal = up_to.0.legal;
        begins = up_to.0.begins;
        reaches = up_to.0.reaches;
        written = appended_kept a b e (changes_text format (asked_of start (signed_lines past held up_to.0.commits)))
            up_to.0.written kept;
      },
      up_to.1,
    ) in (
      record {
        base = base;
        loaded = loaded;
        marks = marks;
        marked = marked;
        checked = checked;
        file = file;
        is_file = is_file;
        is = moved.0;
      },
      moved.1,
    )

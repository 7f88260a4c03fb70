-- What a crash leaves of journals and of table folders, and of the machine of stores.
use Rattle.std.specs.Prelude.{◌≡◌, ◌⊎◌, ℕ, List, [], ◌++◌, length, Option, Some, None}
use Rattle.journal.specs.Groups.{recovered}
use Rattle.row_store.specs.History.{CommitRecord}
use Rattle.ssb_journal.specs.Kept.{KeepsCommits, KeepsWithOrWithout}
use Rattle.ssb_journal.specs.Opening.{IsKept}
use Rattle.ssb_journal.specs.Texts.{IsNewJournal}
use Rattle.ssb_journal.specs.declared.head.TableMark.{TableMark}
use Rattle.ssb_journal.specs.declared.kept.KeptCommits.{KeptCommits}
use Rattle.ssb_schema.specs.declared.table.Table.{Table}
use Rattle.ssb_schema.specs.declared.table.Table.TheVariants.{Lineorder}
use Rattle.store_core.specs.Places.{Segment, SegmentLeft, TablesLeft, whole}
use Rattle.table_folder.specs.Filled.{AreAll, AreNoneOrAll}

-- a segment into which more was written behind what is on the disk
abbrev pub appended : List CommitRecord → List CommitRecord → Segment CommitRecord
appended before more = record { commits = before ++ more; synced = length before }

-- a file that keeps the commits from before, with the new ones or without them, keeps what a crash may leave of that
abbrev pub AppendingIsAStep : Type 0
AppendingIsAStep = (marks : List TableMark) (before more : List CommitRecord) (file : List ℕ)
    → KeepsWithOrWithout marks before more file
    → (left : List CommitRecord) × KeepsCommits marks left file
    × SegmentLeft (Some (appended before more)) (Some left)

-- what is read of a new journal, or of what a crash leaves while it is made, is no commits
abbrev pub ANewSegmentIsEmpty : Type 0
ANewSegmentIsEmpty = (marks : List TableMark) (file : List ℕ) (kept : KeptCommits) → IsNewJournal marks file
    → IsKept marks (recovered file) kept → kept.commits.items ≡ []

-- the texts that a folder shows, once lineorder is there
abbrev pub texts_there : (Table → Option (List ℕ)) → Option (Table → List ℕ) → Type 0
texts_there left None = left Lineorder ≡ None
texts_there left (Some texts) = AreAll texts left

-- none, or all five, is what a crash leaves of tables that get their name, and of none that had it before
abbrev pub AFolderHasTablesOrNone : Type 0
AFolderHasTablesOrNone = (texts : Table → List ℕ) (left : Table → Option (List ℕ)) → AreNoneOrAll texts left
    → (found : Option (Table → List ℕ)) × texts_there left found
    × (TablesLeft {T = Table → List ℕ} None found ⊎ TablesLeft (Some (whole texts)) found)

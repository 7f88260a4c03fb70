-- What is written of a stream of a journal's groups, and why nothing is.
use Rattle.std.specs.Prelude.{◌≡◌, ◌⊎◌, ◌<◌, ℕ, List, [], length, Option}
use Rattle.journal.specs.Groups.{AreTorn}
use Rattle.journal_opening.specs.Kept.{HasCommits, IsKnown}
use Rattle.journal_opening.specs.Marks.{AreMarks, HaveChecksums}
use Rattle.row_store.specs.History.{CommitRecord}
use Rattle.ssb_base.specs.Base.{Tables}
use Rattle.ssb_files.specs.Loaded.{AreRefusedToServe, IsLoadedToServe}
use Rattle.ssb_files.specs.Status.{status_of}
use Rattle.ssb_files.specs.declared.job.JobFault.{JobFault}
use Rattle.ssb_files.specs.declared.job.JobFault.TheVariants as job
use Rattle.ssb_journal.specs.Opening.{TellsOpenFault}
use Rattle.ssb_journal.specs.declared.fault.JournalFault.TheVariants.{Damaged, NotAJournal}
use Rattle.ssb_journal.specs.declared.head.TableMark.{TableMark}
use Rattle.ssb_journal.specs.declared.opening.JournalOpenFault.TheVariants.{Journal}
use Rattle.ssb_schema.specs.declared.table.Table.{Table}
use Rattle.changes_command.specs.Written.{IsWritten, TellsFileFault}
use Rattle.changes_command.specs.declared.feed_fault.FeedFault.TheVariants.{NotAFeed, FeedEnded}
use Rattle.changes_command.specs.declared.feed_fault.FeedRefusal.{FeedRefusal}
use Rattle.changes_command.specs.declared.feed_fault.FeedRefusal.TheVariants as feed
use Rattle.changes_command.specs.declared.format.ChangesFormat.{ChangesFormat}
use Rattle.changes_command.specs.declared.signed.ChangesStart.{ChangesStart}

-- behind the whole groups of a stream stands nothing, or a closed gate alone
abbrev pub EndsWhole : List ℕ → Type 0
EndsWhole stream = AreTorn stream []

-- a stream has commits over tables of these marks, and behind its last whole group a part of another
abbrev pub IsCutOff : List TableMark → List ℕ → Type 0
IsCutOff marks stream =
    ((commits : List CommitRecord) × HasCommits marks commits stream)
    × ((torn : List ℕ) × AreTorn stream torn × (0 < length torn))

-- a stream is no journal over tables of these marks, or the first group behind its head spells no commits
abbrev pub IsNoFeed : List TableMark → List ℕ → Type 0
IsNoFeed marks stream =
    TellsOpenFault marks stream (Journal NotAJournal) ⊎ TellsOpenFault marks stream (Journal (Damaged 1))

-- what is told of a stream over tables, where so many commits came before: what is told of a journal's file, or that it
-- is no feed, or was cut off
abbrev pub TellsStreamFault : Tables → List TableMark → List ℕ → ℕ → ChangesStart → JobFault FeedRefusal → Type 0
TellsStreamFault base marks stream past start (job.Program why) = status_of why ≡ 4
TellsStreamFault base marks stream past start (job.Found (feed.Changes why)) =
    TellsFileFault base marks stream past start (job.Found why)
TellsStreamFault base marks stream past start (job.Found (feed.Feed NotAFeed)) = IsNoFeed marks stream
TellsStreamFault base marks stream past start (job.Found (feed.Feed FeedEnded)) = IsCutOff marks stream

-- why the changes of a stream are not written: of the stream, which is the known one, where one is known, this is told
pub record IsFeedRefusal (base : Tables) (marks : List TableMark) (known : Option (List ℕ)) (past : ℕ)
    (start : ChangesStart) (why : JobFault FeedRefusal) : Type 0 where
  pub stream : List ℕ
  pub is_stream : IsKnown known stream
  pub told : TellsStreamFault base marks stream past start why

-- what is asked for of the signed lines of a stream was written in a format, all of it, where so many commits came
-- before; the stream is the known one, where one is known
pub record IsFed (base : Tables) (marks : List TableMark) (known : Option (List ℕ)) (past : ℕ) (start : ChangesStart)
    (format : ChangesFormat) (old new : Option (List ℕ)) : Type 0 where
  pub stream : List ℕ
  pub is_stream : IsKnown known stream
  pub whole : EndsWhole stream
  pub is : IsWritten base marks stream past start format old new

-- the five texts spell a base, and this holds over it and the marks of its tables
pub record OverTexts (texts : Table → List ℕ) (Holds : Tables → List TableMark → Type 0) : Type 0 where
  pub base : Tables
  pub loaded : IsLoadedToServe texts base
  pub marks : List TableMark
  pub marked : AreMarks base marks
  pub checked : HaveChecksums texts marks
  pub holds : Holds base marks

abbrev pub Feeds : (Table → List ℕ) → Option (List ℕ) → ℕ → ChangesStart → ChangesFormat → Option (List ℕ)
    → Option (List ℕ) → Type 0
Feeds texts known past start format old new =
    OverTexts texts (λ base marks. IsFed base marks known past start format old new)

-- what a fault tells: that the texts are refused; or what the stream is over the base that they spell
abbrev pub TellsFeedFault : (Table → List ℕ) → Option (List ℕ) → ℕ → ChangesStart → JobFault FeedRefusal → Type 0
TellsFeedFault texts known past start (job.Program why) = status_of why ≡ 1 → AreRefusedToServe texts
TellsFeedFault texts known past start (job.Found why) =
    OverTexts texts (λ base marks. IsFeedRefusal base marks known past start (job.Found why))

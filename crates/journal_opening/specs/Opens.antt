-- Of a journal's file that is to be opened.
use Rattle.std.specs.Prelude.{◌≡◌, ◌≢◌, ◌⊎◌, ℕ, List, [], string_bytes}
use Rattle.journal.specs.Groups.{behind, recovered}
use Rattle.journal_file.specs.declared.file_disk.OpenError.{OpenError}
use Rattle.journal_file.specs.declared.file_disk.OpenError.TheVariants as open_error
use Rattle.journal_opening.specs.declared.fault.OpeningFault.{OpeningFault}
use Rattle.journal_opening.specs.declared.fault.OpeningFault.TheVariants as opening
use Rattle.journal_opening.specs.declared.start.JournalStart.{JournalStart}
use Rattle.journal_opening.specs.declared.start.JournalStart.TheVariants.{GoesOn, Begins}
use Rattle.row_store.specs.History.{CommitRecord}
use Rattle.ssb_journal.specs.Kept.{BeginsWithCommits}
use Rattle.ssb_journal.specs.Opening.{IsOpenFault, TellsOpenFault}
use Rattle.ssb_journal.specs.declared.fault.JournalFault.{JournalFault}
use Rattle.ssb_journal.specs.declared.fault.JournalFault.TheVariants.{OutOfMemory}
use Rattle.ssb_journal.specs.declared.head.TableMark.{TableMark}
use Rattle.ssb_journal.specs.declared.opening.JournalOpenFault.{JournalOpenFault}
use Rattle.ssb_journal.specs.declared.opening.JournalOpenFault.TheVariants as kept

-- what is told of a file that is not opened: where it is missing, that it is
abbrev pub TellsMissing : Type 0 → OpenError → Type 0
TellsMissing Missing (open_error.NoJournal told) = Missing
TellsMissing Missing _ = Unit {0}

-- a file begins with a journal over tables of these marks, which has commits
abbrev pub HasSome : List TableMark → List ℕ → Type 0
HasSome marks file = (commits : List CommitRecord) × BeginsWithCommits marks commits file × (commits ≢ [])

-- no journal begins with the file: one has, which has commits over tables of these marks, or it is none over them
abbrev pub IsNotNew : List TableMark → List ℕ → Type 0
IsNotNew marks file =
    HasSome marks file ⊎ ((fault : JournalFault) × IsOpenFault marks (recovered file) (behind file) fault)

-- what is told of a file that was opened and read, as the journal is gone on with or begins: of its disk nothing
abbrev pub TellsStartFault : JournalStart → List ℕ → List TableMark → List ℕ → OpeningFault → Type 0
TellsStartFault GoesOn path marks file (opening.Kept why) = TellsOpenFault marks file why
TellsStartFault Begins path marks file (opening.Kept (kept.Disk error)) = Unit {0}
TellsStartFault Begins path marks file (opening.Kept (kept.Journal fault)) = fault ≡ OutOfMemory
TellsStartFault Begins path marks file (opening.HasBytes name) = (string_bytes name ≡ path) × IsNotNew marks file
TellsStartFault GoesOn path marks file (opening.HasBytes name) = ⊥
TellsStartFault start path marks file (opening.File why) = ⊥
TellsStartFault start path marks file (opening.Replay why) = ⊥

-- it is told that no journal begins with the file of this path; or memory for that ran out
abbrev pub IsHasBytes : List ℕ → OpeningFault → Type 0
IsHasBytes path (opening.HasBytes name) = string_bytes name ≡ path
IsHasBytes path (opening.Kept (kept.Journal fault)) = fault ≡ OutOfMemory
IsHasBytes path (opening.Kept (kept.Disk error)) = ⊥
IsHasBytes path (opening.File why) = ⊥
IsHasBytes path (opening.Replay why) = ⊥

-- how a file that was read is refused where a journal is gone on with, and where one begins
abbrev pub IsStartFault : JournalStart → List ℕ → JournalOpenFault → OpeningFault → Type 0
IsStartFault GoesOn path fault told = told ≡ opening.Kept fault
IsStartFault Begins path (kept.Disk error) told = told ≡ opening.Kept (kept.Disk error)
IsStartFault Begins path (kept.Journal fault) told =
    (told ≡ opening.Kept (kept.Journal OutOfMemory)) ⊎ ((fault ≢ OutOfMemory) × IsHasBytes path told)

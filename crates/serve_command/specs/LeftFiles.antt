-- What becomes of a journal's file behind which nobody was served, or not to the end.
use Rattle.std.specs.Prelude.{◌≡◌, ℕ, List, Option}
use Rattle.journal.specs.Disk.{LeavesOnly}
use Rattle.journal_opening.specs.Kept.{HasCommits, IsKnown}
use Rattle.row_store.specs.History.{CommitRecord}
use Rattle.serve_command.specs.BegunFiles.{IsTornKept}
use Rattle.serve_command.specs.JournaledRun.{IsFoundOrKept, KeepsRecovered}
use Rattle.serve_command.specs.declared.left_file.LeftFile.{LeftFile}
use Rattle.serve_command.specs.declared.left_file.LeftFile.TheVariants.{Unread, Read}
use Rattle.ssb_journal.specs.declared.head.TableMark.{TableMark}

-- what is so of a file: where it was not read to its end, and where it was
abbrev pub IsLeftFile : {U D : Type 0} → (U → Type 0) → (D → Type 0) → LeftFile U D → Type 0
IsLeftFile WasUnread WasRead (Unread file) = WasUnread file
IsLeftFile WasUnread WasRead (Read disk) = WasRead disk

-- a disk on which a journal's file was found, the known one, where one is known, with these commits
pub record IsFoundWith {D : Type 0} (seen : D → List ℕ) (marks : List TableMark) (known : Option (List ℕ))
    (commits : List CommitRecord) (found : D) : Type 0 where
  pub is_file : IsKnown known (seen found)
  pub has : HasCommits marks commits (seen found)

-- a disk is as the file was found on it
pub record IsAsFound {D : Type 0} (seen : D → List ℕ) (marks : List TableMark) (known : Option (List ℕ)) (disk : D)
    : Type 0 where
  pub commits : List CommitRecord
  pub is : IsFoundWith seen marks known commits disk

-- a disk is as the file was found on it; or a crash at any moment since then leaves all its commits
pub record KeepsFound {D : Type 0} (seen : D → List ℕ) (moment : D → ℕ) (left_since : D → ℕ → List ℕ → Type 0)
    (marks : List TableMark) (known : Option (List ℕ)) (disk : D) : Type 0 where
  pub found : D
  pub commits : List CommitRecord
  pub is : IsFoundWith seen marks known commits found
  pub kept : IsFoundOrKept moment left_since found commits disk

-- a crash at any moment since the file was found leaves the first commits of a log, all those of the file among them
pub record KeepsLog {D : Type 0} (seen : D → List ℕ) (moment : D → ℕ) (left_since : D → ℕ → List ℕ → Type 0)
    (marks : List TableMark) (known : Option (List ℕ)) (log : List CommitRecord) (disk : D) : Type 0 where
  pub found : D
  pub commits : List CommitRecord
  pub is : IsFoundWith seen marks known commits found
  pub any_moment : LeavesOnly moment left_since found disk (KeepsRecovered commits log)

-- this is the evidence that what a crash had torn of a journal's file, the known one, where one is known, is kept; where
-- there is none, the disk is as the file was found on it
pub record KeepsTornBytes {D T : Type 0} (seen : D → List ℕ) (bytes : T → List ℕ) (marks : List TableMark)
    (known : Option (List ℕ)) (torn : Option T) (disk : D) : Type 0 where
  pub found : D
  pub commits : List CommitRecord
  pub is : IsFoundWith seen marks known commits found
  pub kept : IsTornKept bytes (seen found) (disk ≡ found) torn

-- What was read of a journal's file.
use Rattle.std.specs.Prelude.{◌≡◌, ◌+◌, ℕ, Bool, true, false, List, Option, None, Some, length}
use Rattle.journal.specs.Disk.{BeginsAsRead}
use Rattle.row_store.specs.History.{CommitRecord}
use Rattle.ssb_journal.specs.Opening.{IsKept, TellsOpenFault}
use Rattle.ssb_journal.specs.Texts.{IsBeginning}
use Rattle.ssb_journal.specs.declared.fault.JournalFault.{JournalFault}
use Rattle.ssb_journal.specs.declared.fault.JournalFault.TheVariants.{Damaged}
use Rattle.ssb_journal.specs.declared.head.HeadForm.{HeadForm}
use Rattle.ssb_journal.specs.declared.head.TableMark.{TableMark}
use Rattle.ssb_journal.specs.declared.kept.KeptCommits.{KeptCommits}
use Rattle.ssb_journal.specs.declared.opening.JournalOpenFault.TheVariants.{Journal}

-- a journal's file that is read, as contracts see it: the file, as far as it was read, the marks of its tables, how
-- many texts were handed on, the commits so far, the form of its head, whether it is new, and whether all was read
pub record ReadCommits (U : Type 0) : Type 0 where
  pub unread : U
  pub marks : List TableMark
  pub texts : ℕ
  pub commits : List CommitRecord
  pub form : HeadForm
  pub is_new : Bool
  pub is_done : Bool

-- the groups that were read keep these commits, so many texts of them; where there are none, all was read, and what is
-- there is the beginning of a journal
pub record IsReading (marks : List TableMark) (groups : List (List ℕ)) (rest : List ℕ) (done : Bool) (texts : ℕ)
    (kept : KeptCommits) : Type 0 where
  pub kept_is : IsKept marks groups kept
  pub counted : kept.is_new ≡ false → length groups ≡ texts + 1
  pub new : kept.is_new ≡ true → (done ≡ true) × IsBeginning marks rest

-- a fault of the group behind so many texts, which is told next: it is one of each file that begins with what was read
abbrev pub IsToldNext : List TableMark → List ℕ → Type 0 → ℕ → JournalFault → Type 0
IsToldNext marks taken Ended texts fault =
    (fault ≡ Damaged (texts + 1))
    × ((file : List ℕ) → BeginsAsRead taken Ended file → TellsOpenFault marks file (Journal fault))

-- whether all was read: the groups are all, and no fault is told next
abbrev pub are_all_read : Bool → Option JournalFault → Bool
are_all_read done None = done
are_all_read done (Some fault) = false

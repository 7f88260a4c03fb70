-- What the groups of a file are to a journal of commits.
use Rattle.std.specs.Prelude.{◌≡◌, ◌⊎◌, List, ℕ, [], ◌++◌, true, false}
use Rattle.ssb_journal.specs.Texts.{AreSealed, IsFileFault}
use Rattle.ssb_journal.specs.declared.head.HeadForm.{HeadForm}
use Rattle.ssb_journal.specs.declared.head.HeadForm.TheVariants.{Checksums}
use Rattle.ssb_journal.specs.declared.head.TableMark.{TableMark}
use Rattle.ssb_journal.specs.declared.fault.JournalFault.{JournalFault}
use Rattle.ssb_journal.specs.Kept.{IsFirstNoBatch, SpellCommits}
use Rattle.ssb_journal.specs.declared.kept.KeptCommits.{KeptCommits}
use Rattle.ssb_journal.specs.declared.opening.JournalOpenFault.{JournalOpenFault}
use Rattle.ssb_journal.specs.declared.opening.JournalOpenFault.TheVariants.{Disk, Journal}
use Rattle.ssb_journal.specs.declared.fault.JournalFault.TheVariants.{OutOfMemory}
use Rattle.journal.specs.Groups.{recovered, behind}

-- groups are a head of these tables, of the form that is told, and texts that spell these commits
pub record AreKept (marks : List TableMark) (groups : List (List ℕ)) (kept : KeptCommits) : Type 0 where
  pub texts : List (List ℕ)
  pub sealed : AreSealed kept.form marks texts groups
  pub spelled : SpellCommits texts kept.commits.items

-- there are no groups, and it is new; or it keeps these commits
abbrev pub IsKept : List TableMark → List (List ℕ) → KeptCommits → Type 0
IsKept marks groups kept =
    ((kept.is_new ≡ true) × (groups ≡ []) × (kept.commits.items ≡ []) × (kept.form ≡ Checksums))
    ⊎ ((kept.is_new ≡ false) × AreKept marks groups kept)

-- the first groups are a head of these tables and texts, one of which spells no commits
pub record HasNoBatch (marks : List TableMark) (groups : List (List ℕ)) (fault : JournalFault) : Type 0 where
  pub first_groups : List (List ℕ)
  pub more : List (List ℕ)
  pub are : groups ≡ first_groups ++ more
  pub form : HeadForm
  pub texts : List (List ℕ)
  pub sealed : AreSealed form marks texts first_groups
  pub first : IsFirstNoBatch texts fault

-- why groups, with the bytes behind them, are no journal of commits over these tables
abbrev pub IsOpenFault : List TableMark → List (List ℕ) → List ℕ → JournalFault → Type 0
IsOpenFault marks groups rest fault = IsFileFault marks groups rest fault ⊎ HasNoBatch marks groups fault

-- what is told of a file that is not opened: of its disk nothing
abbrev pub TellsOpenFault : List TableMark → List ℕ → JournalOpenFault → Type 0
TellsOpenFault marks file (Disk error) = Unit {0}
TellsOpenFault marks file (Journal fault) =
    (fault ≡ OutOfMemory) ⊎ IsOpenFault marks (recovered file) (behind file) fault

-- How many commits a journal keeps, and of which log.
use Rattle.std.specs.Prelude.{◌≡◌, ◌⊎◌, ◌≤◌, List, ℕ, length, take, Bool, true}
use Rattle.row_store.specs.History.{CommitRecord}
use Rattle.ssb_journal.specs.declared.head.HeadForm.{HeadForm}
use Rattle.ssb_journal.specs.declared.head.TableMark.{TableMark}
use Rattle.ssb_journal.specs.Kept.{KeepsCommits, SpellCommits}
use Rattle.ssb_journal.specs.Texts.{AreSealed}

-- groups are those of a journal that keeps at least so many commits
pub record HaveAtLeast (count : ℕ) (groups : List (List ℕ)) : Type 0 where
  pub form : HeadForm
  pub marks : List TableMark
  pub texts : List (List ℕ)
  pub sealed : AreSealed form marks texts groups
  pub commits : List CommitRecord
  pub spelled : SpellCommits texts commits
  pub enough : count ≤ length commits

-- groups are those of a journal that keeps the first commits of a log, so many of them, and no others
pub record HaveFirst (count : ℕ) (log : List CommitRecord) (groups : List (List ℕ)) : Type 0 where
  pub form : HeadForm
  pub marks : List TableMark
  pub texts : List (List ℕ)
  pub sealed : AreSealed form marks texts groups
  pub spelled : SpellCommits texts (take count log)
  pub inside : count ≤ length log

-- a file is a journal, and keeps the first commits of a log, so many of them, and no others
pub record KeepsFirst (count : ℕ) (log : List CommitRecord) (file : List ℕ) : Type 0 where
  pub marks : List TableMark
  pub keeps : KeepsCommits marks (take count log) file
  pub inside : count ≤ length log

-- a file is a journal, and keeps a beginning of a log, of at least so many commits
pub record KeepsBeginning (least : ℕ) (log : List CommitRecord) (file : List ℕ) : Type 0 where
  pub count : ℕ
  pub enough : least ≤ count
  pub first : KeepsFirst count log file

-- a journal as it was begun: when, how many commits it kept, and what a crash at some moment from then on might have
-- left
pub record Begun : Type 1 where
  pub moment : ℕ
  pub count : ℕ
  pub past : ℕ → List ℕ → Type 0

-- a journal of which nothing is said
abbrev pub nothing_said : Begun
nothing_said = record { moment = 0; count = 0; past = λ _ _. Unit {0} }

-- a crash at some moment leaves what one might have left when the journal was begun, or a journal of the first commits
-- of a log, at least as many as it kept then
pub record KeepsSince (begun : Begun) (now : ℕ) (left_since : ℕ → List ℕ → Type 0) (count : ℕ) (log : List CommitRecord)
    : Type 0 where
  pub later : begun.moment ≤ now
  pub enough : begun.count ≤ count
  pub before : (t : ℕ) (file : List ℕ) → t ≤ begun.moment → left_since t file
      → begun.past t file ⊎ KeepsBeginning begun.count log file

-- a journal beside a log, as contracts see it: its disk, the log, and how many commits it keeps
pub record Journaled (D L : Type 0) : Type 0 where
  pub disk : D
  pub source : L
  pub count : ℕ

-- what is left of it: whether it was written to the end, too
pub record LeftJournal (D L : Type 0) : Type 0 where
  pub disk : D
  pub source : L
  pub count : ℕ
  pub whole : Bool

-- whatever crashes now leaves a journal of the first commits of a log, of at least so many; and where it was written to
-- the end, the file is one of just so many
pub record IsLeft (may_leave : List ℕ → Type 0) (seen : List ℕ) (count : ℕ) (log : List CommitRecord) (whole : Bool)
    : Type 0 where
  pub crash : (file : List ℕ) → may_leave file → KeepsBeginning count log file
  pub written : whole ≡ true → KeepsFirst count log seen

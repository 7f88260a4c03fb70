-- Why a journal is not gone on with, or does not begin.
use Rattle.std.proofs.Common.{◌≡◌, ◌∙◌, ℕ, List, [], ◌∷◌, ◌++◌, length, inl, inr, refl, subst, sym, ap, arith}
use Rattle.std.specs.Prelude.{◌≢◌}
use Rattle.journal.specs.Groups.{behind, recovered}
use Rattle.journal_opening.specs.Opens.{HasSome, IsHasBytes, IsNotNew, IsStartFault, TellsStartFault}
use Rattle.journal_opening.specs.declared.fault.OpeningFault.{OpeningFault}
use Rattle.journal_opening.specs.declared.fault.OpeningFault.TheVariants as opening
use Rattle.journal_opening.specs.declared.start.JournalStart.{JournalStart}
use Rattle.journal_opening.specs.declared.start.JournalStart.TheVariants.{GoesOn, Begins}
use Rattle.row_store.specs.History.{CommitRecord}
use Rattle.ssb_journal.specs.Kept.{BeginsWithCommits}
use Rattle.ssb_journal.specs.Opening.{IsOpenFault, TellsOpenFault}
use Rattle.ssb_journal.specs.declared.fault.JournalFault.{JournalFault}
use Rattle.ssb_journal.specs.declared.fault.JournalFault.TheVariants.{OutOfMemory}
use Rattle.ssb_journal.specs.declared.head.TableMark.{TableMark}
use Rattle.ssb_journal.specs.declared.opening.JournalOpenFault.{JournalOpenFault}
use Rattle.ssb_journal.specs.declared.opening.JournalOpenFault.TheVariants as kept

none_behind : (before batch : List CommitRecord) → before ++ batch ≡ [] → batch ≡ []
none_behind [] batch none = none
none_behind (commit ∷ before) batch none = absurd (omega (arith, ap length none))

module _ (path : List ℕ) (marks : List TableMark) (file : List ℕ) where
  -- what is told where no journal begins with a file
  pub has_told : (told : OpeningFault) → IsHasBytes path told → IsNotNew marks file
      → TellsStartFault Begins path marks file told
  has_told (opening.HasBytes name) named is = (named, is)
  has_told (opening.Kept (kept.Journal fault)) memory is = memory
  has_told (opening.Kept (kept.Disk error)) not is = absurd not
  has_told (opening.File why) not is = absurd not
  has_told (opening.Replay why) not is = absurd not

  open_fault : (fault : JournalFault) → fault ≢ OutOfMemory → TellsOpenFault marks file (kept.Journal fault)
      → IsOpenFault marks (recovered file) (behind file) fault
  open_fault fault not (inl memory) = absurd (not memory)
  open_fault fault not (inr is) = is

  -- what is told of a fault of a file that was read
  pub start_told : (start : JournalStart) (why : JournalOpenFault) (told : OpeningFault)
      → IsStartFault start path why told → TellsOpenFault marks file why → TellsStartFault start path marks file told
  start_told GoesOn why told is tells = subst (TellsStartFault GoesOn path marks file) (sym is) tells
  start_told Begins (kept.Disk error) told is tells = subst (TellsStartFault Begins path marks file) (sym is) tt
  start_told Begins (kept.Journal fault) told (inl memory) tells =
      subst (TellsStartFault Begins path marks file) (sym memory) refl
  start_told Begins (kept.Journal fault) told (inr (not, has)) tells =
      has_told told has (inr (fault, open_fault fault not tells))

  -- a file that begins with commits has some, where the last that were read are some
  pub has_some : (before batch commits : List CommitRecord) → commits ≡ before ++ batch → batch ≢ []
      → BeginsWithCommits marks commits file → HasSome marks file
  has_some before batch commits is some begins =
      (commits, begins, λ none. some (none_behind before batch (sym is ∙ none)))

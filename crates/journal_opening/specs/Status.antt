-- The exit status of a journal whose commits are not at hand.
use Rattle.std.specs.Prelude.{ℕ}
use Rattle.journal_file.specs.declared.file_disk.OpenError.{OpenError}
use Rattle.journal_file.specs.declared.file_disk.OpenError.TheVariants as file
use Rattle.journal_opening.specs.declared.fault.OpeningFault.{OpeningFault}
use Rattle.journal_opening.specs.declared.fault.OpeningFault.TheVariants as opening
use Rattle.ssb_journal.specs.declared.fault.JournalFault.TheVariants as journal
use Rattle.ssb_journal.specs.declared.opening.JournalOpenFault.{JournalOpenFault}
use Rattle.ssb_journal.specs.declared.opening.JournalOpenFault.TheVariants as kept
use Rattle.ssb_journal.specs.declared.replaying.ReplayFault.{ReplayFault}
use Rattle.ssb_journal.specs.declared.replaying.ReplayFault.TheVariants as replay

-- 1: the file is refused; 4: a call of the system failed, or memory ran out
abbrev pub file_status : OpenError → ℕ
file_status file.InUse = 1
file_status (file.NoJournal told) = 1
file_status (file.Io error) = 4

abbrev pub kept_status : JournalOpenFault → ℕ
kept_status (kept.Journal journal.OutOfMemory) = 4
kept_status (kept.Journal _) = 1
kept_status (kept.Disk error) = 4

abbrev pub replay_status : ReplayFault → ℕ
replay_status replay.OutOfMemory = 4
replay_status _ = 1

abbrev pub opening_status : OpeningFault → ℕ
opening_status (opening.File why) = file_status why
opening_status (opening.Kept why) = kept_status why
opening_status (opening.HasBytes path) = 1
opening_status (opening.Replay why) = replay_status why

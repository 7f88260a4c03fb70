-- What a disk in memory shows.
use Rattle.std.specs.Prelude.{◌≡◌, ℕ, List, []}
use Rattle.journal.specs.Disk.{Only}
use Rattle.journal.specs.Calls.{seen_after, left_after}
use Rattle.journal_tests.specs.DiskCalls.{calls_of}
use Rattle.journal_tests.specs.declared.tearing_disk.TearingDisk.{TearingDisk}

abbrev pub disk_bytes : TearingDisk → List ℕ
disk_bytes disk = seen_after (calls_of disk.first.items disk.calls)

-- all of it is on the disk
abbrev pub IsOnDisk : TearingDisk → Type 0
IsOnDisk disk = Only (disk_bytes disk) (left_after (calls_of disk.first.items disk.calls))

-- nothing of it was promised
abbrev pub IsFresh : TearingDisk → Type 0
IsFresh disk = disk.promised.items ≡ []

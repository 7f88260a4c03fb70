-- The calls of a disk in memory.
use Rattle.std.specs.Prelude.{ℕ, List, [], ◌∷◌, ◌++◌, map, Vec}
use Rattle.std.specs.declared.alloc.Global.{Global}
use Rattle.journal.specs.Calls.{Call, opened, wrote, trimmed, synced}
use Rattle.journal.specs.Groups.{recovered}
use Rattle.journal_tests.specs.declared.tearing_disk.DiskCall.{DiskCall}
use Rattle.journal_tests.specs.declared.tearing_disk.DiskCall.TheVariants.{Write, Cut, Sync}

abbrev pub call_of : DiskCall → Call
call_of (Write at bytes is_done) = wrote at bytes.items is_done
call_of (Cut len is_done) = trimmed len is_done
call_of (Sync is_done) = synced is_done

-- the calls on a file that held these bytes at first
abbrev pub calls_of : List ℕ → List DiskCall → List Call
calls_of first calls = map call_of calls ++ opened first ∷ []

-- the groups of the bytes that were promised; none where nothing was
abbrev pub promised_in : List (Vec ℕ Global) → List (List ℕ)
promised_in [] = []
promised_in (bytes ∷ more) = recovered bytes.items

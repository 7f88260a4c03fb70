-- The exit status of a store that is not served.
use Rattle.std.specs.Prelude.{ℕ}
use Rattle.store_folder.specs.declared.fault.StoreFault.{StoreFault}
use Rattle.store_folder.specs.declared.fault.StoreFault.TheVariants as fault

-- 1: the folder is refused, or there is no such commit; 4: a call of the system failed, or memory ran out
abbrev pub fault_status : StoreFault → ℕ
fault_status fault.NoStore = 1
fault_status (fault.Gap number) = 1
fault_status (fault.NoSuchCommit why) = 1
fault_status (fault.Damaged name) = 1
fault_status (fault.CannotRead path) = 4
fault_status fault.OutOfMemory = 4

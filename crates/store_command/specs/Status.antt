-- The exit statuses of what is found of a store.
use Rattle.std.specs.Prelude.{◌≡◌, ◌⊎◌, ℕ}
use Rattle.export_command.specs.Status.{refusal_status as tables_status}
use Rattle.store_command.specs.declared.fault.StoreRefusal.{StoreRefusal}
use Rattle.store_command.specs.declared.fault.StoreRefusal.TheVariants as refusal
use Rattle.ssb_files.specs.Status.{job_status}
use Rattle.ssb_files.specs.declared.job.JobFault.{JobFault}
use Rattle.store_folder.specs.Status.{fault_status}

-- 1: the folder or the store is refused; 4: a call of the system failed, or memory ran out
abbrev pub refusal_status : StoreRefusal → ℕ
refusal_status (refusal.Folder why) = 1
refusal_status (refusal.CannotWrite path) = 4
refusal_status (refusal.Store why) = fault_status why
refusal_status refusal.InUse = 1
refusal_status (refusal.Tables why) = tables_status why

abbrev pub store_status : JobFault StoreRefusal → ℕ
store_status fault = job_status refusal_status fault

-- a status of what is refused, or of what failed
abbrev pub IsRefusedOrFailed : ℕ → Type 0
IsRefusedOrFailed status = (status ≡ 1) ⊎ (status ≡ 4)

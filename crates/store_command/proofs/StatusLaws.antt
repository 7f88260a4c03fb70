-- The exit statuses that are told of a store.
use Rattle.std.proofs.Common.{arith}
use Rattle.std.specs.Prelude.{◌≢◌}
use Rattle.changes_command.proofs.StatusLaws.{changes_told}
use Rattle.changes_command.specs.declared.fault.ChangesRefusal.TheVariants as changes
use Rattle.export_command.specs.declared.fault.ExportRefusal.TheVariants as tables
use Rattle.ssb_files.specs.declared.job.JobFault.{JobFault}
use Rattle.ssb_files.specs.declared.job.JobFault.TheVariants as job
use Rattle.store_folder.specs.Status.{fault_status}
use Rattle.store_folder.specs.declared.fault.StoreFault.{StoreFault}
use Rattle.store_command.specs.Status.{store_status}
use Rattle.store_command.specs.declared.fault.StoreRefusal.{StoreRefusal}
use Rattle.store_command.specs.declared.fault.StoreRefusal.TheVariants as refusal

folder-told : (why : StoreFault) → fault_status why ≢ 0
folder-told why zero = grind arith

-- a fault is told by no 0
pub store_told : (why : JobFault StoreRefusal) → store_status why ≢ 0
store_told (job.Program why) zero = changes_told (job.Program why) zero
store_told (job.Found (refusal.Folder why)) zero = omega (arith, zero)
store_told (job.Found (refusal.CannotWrite path)) zero = omega (arith, zero)
store_told (job.Found (refusal.Store why)) zero = folder-told why zero
store_told (job.Found refusal.InUse) zero = omega (arith, zero)
store_told (job.Found (refusal.Tables (tables.Folder why))) zero = omega (arith, zero)
store_told (job.Found (refusal.Tables (tables.CannotWrite path))) zero = omega (arith, zero)
store_told (job.Found (refusal.Tables (tables.Journal why))) zero = changes_told (job.Found (changes.Journal why)) zero
store_told (job.Found (refusal.Tables (tables.Commit why))) zero = omega (arith, zero)

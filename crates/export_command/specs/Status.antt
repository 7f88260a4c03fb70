-- The exit status of an export.
use Rattle.std.specs.Prelude.{ℕ}
use Rattle.export_command.specs.declared.fault.ExportRefusal.{ExportRefusal}
use Rattle.export_command.specs.declared.fault.ExportRefusal.TheVariants as refusal
use Rattle.journal_opening.specs.Status.{opening_status}
use Rattle.ssb_files.specs.Status.{job_status}
use Rattle.ssb_files.specs.declared.job.JobFault.{JobFault}

-- 1: the folder or the journal is refused, or there is no such commit; 4: a call of the system failed, or memory ran out
abbrev pub refusal_status : ExportRefusal → ℕ
refusal_status (refusal.Folder why) = 1
refusal_status (refusal.CannotWrite path) = 4
refusal_status (refusal.Journal why) = opening_status why
refusal_status (refusal.Commit why) = 1

abbrev pub export_status : JobFault ExportRefusal → ℕ
export_status fault = job_status refusal_status fault

-- The exit status of a fault of an audit.
use Rattle.std.specs.Prelude.{ℕ}
use Rattle.ssb_audit.specs.declared.fault.AuditFault.{AuditFault}
use Rattle.ssb_audit.specs.declared.fault.AuditFault.TheVariants as audit
use Rattle.audit_command.specs.declared.fault.Against.{Against}
use Rattle.ssb_files.specs.Status.{job_status}
use Rattle.ssb_files.specs.declared.job.JobFault.{JobFault}

-- 3: something speaks against the trace
abbrev pub audit_status : AuditFault → ℕ
audit_status audit.OutOfMemory = 4
audit_status _ = 3

abbrev pub against_status : Against → ℕ
against_status found = audit_status found.0

abbrev pub auditing_status : JobFault Against → ℕ
auditing_status fault = job_status against_status fault

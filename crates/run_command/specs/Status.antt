-- The exit status of a fault of serving.
use Rattle.std.specs.Prelude.{ℕ}
use Rattle.ssb_files.specs.Status.{job_status}
use Rattle.ssb_files.specs.declared.job.JobFault.{JobFault}
use Rattle.run_command.specs.declared.fault.NotRun.{NotRun}

-- 4: no server could be opened, or memory or threads were wanting
abbrev pub serving_status : JobFault NotRun → ℕ
serving_status fault = job_status (λ _. 4) fault

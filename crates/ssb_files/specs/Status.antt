-- The exit status of a fault.
use Rattle.std.specs.Prelude.{ℕ}
use Rattle.ssb_text.specs.declared.error.LoadError.{LoadError}
use Rattle.ssb_text.specs.declared.error.LoadError.TheVariants as load
use Rattle.ssb_script.specs.declared.error.ScriptError.{ScriptError}
use Rattle.ssb_script.specs.declared.error.ScriptError.TheVariants as script
use Rattle.ssb_script.specs.declared.questions.QuestionsError.{QuestionsError}
use Rattle.ssb_script.specs.declared.questions.QuestionsError.TheVariants as questions
use Rattle.shared_scan.specs.declared.standing_error.StandingError.{StandingError}
use Rattle.shared_scan.specs.declared.standing_error.StandingError.TheVariants as standing
use Rattle.ssb_files.specs.declared.fault.Fault.{Fault}
use Rattle.ssb_files.specs.declared.fault.Fault.TheVariants as fault
use Rattle.ssb_files.specs.declared.job.JobFault.{JobFault}
use Rattle.ssb_files.specs.declared.job.JobFault.TheVariants as job

-- 1: the data, the script or the trace is refused; 4: it could not be read
abbrev pub data_status : LoadError → ℕ
data_status (load.Read table) = 4
data_status load.OutOfMemory = 4
data_status _ = 1

abbrev pub script_status : ScriptError → ℕ
script_status script.Read = 4
script_status script.OutOfMemory = 4
script_status _ = 1

-- the same of the questions that are to stand
abbrev pub questions_status : QuestionsError → ℕ
questions_status (questions.NotAQuestion number) = 1
questions_status (questions.Sql number why) = 1
questions_status questions.Read = 4
questions_status questions.OutOfMemory = 4

-- and of those that may not stand over the base
abbrev pub not_standing_status : StandingError → ℕ
not_standing_status (standing.TooManyGroups place) = 1
not_standing_status standing.OutOfMemory = 4

-- 1: the paths or the questions that are to stand are refused, as data is; 2: the words are wrong; 4: reading, writing
-- or memory failed
abbrev pub status_of : Fault → ℕ
status_of (fault.NoSuchQuery why) = 2
status_of (fault.Constants why) = 2
status_of fault.BadWord = 2
status_of (fault.Data why) = data_status why
status_of fault.TooManyScripts = 2
status_of (fault.Script number why) = script_status why
status_of (fault.Standing why) = questions_status why
status_of (fault.TooManyGroups why) = 1
status_of (fault.Trace why) = script_status why
status_of (fault.CannotRead path) = 4
status_of (fault.Paths why) = 1
status_of fault.NoRandomness = 4
status_of fault.WriteFailed = 4
status_of fault.OutOfMemory = 4

-- that of a job: of the program's fault, or of what only this job finds
abbrev pub job_status : {F : Type 0} → (F → ℕ) → JobFault F → ℕ
job_status found (job.Program why) = status_of why
job_status found (job.Found what) = found what

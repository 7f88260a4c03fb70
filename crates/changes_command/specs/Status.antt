-- The exit status where changes are not written.
use Rattle.std.specs.Prelude.{ℕ}
use Rattle.journal_opening.specs.Status.{opening_status}
use Rattle.ssb_files.specs.Status.{job_status}
use Rattle.ssb_files.specs.declared.job.JobFault.{JobFault}
use Rattle.changes_command.specs.declared.fault.ChangesRefusal.{ChangesRefusal}
use Rattle.changes_command.specs.declared.fault.ChangesRefusal.TheVariants as refusal
use Rattle.changes_command.specs.declared.feed_fault.FeedFault.{FeedFault}
use Rattle.changes_command.specs.declared.feed_fault.FeedFault.TheVariants.{NotAFeed, FeedEnded}
use Rattle.changes_command.specs.declared.feed_fault.FeedRefusal.{FeedRefusal}
use Rattle.changes_command.specs.declared.feed_fault.FeedRefusal.TheVariants as feed

-- 1: the journal is refused, or has no such commit; 4: a call of the system failed, or memory ran out
abbrev pub refusal_status : ChangesRefusal → ℕ
refusal_status (refusal.Journal why) = opening_status why
refusal_status (refusal.Commit why) = 1

abbrev pub changes_status : JobFault ChangesRefusal → ℕ
changes_status fault = job_status refusal_status fault

-- the same of a stream. 1: it is no feed; 4: it ended within a group
abbrev pub feed_status : FeedFault → ℕ
feed_status NotAFeed = 1
feed_status FeedEnded = 4

abbrev pub feed_refusal_status : FeedRefusal → ℕ
feed_refusal_status (feed.Changes why) = refusal_status why
feed_refusal_status (feed.Feed why) = feed_status why

abbrev pub feeding_status : JobFault FeedRefusal → ℕ
feeding_status fault = job_status feed_refusal_status fault

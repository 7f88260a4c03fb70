-- The exit statuses that changes have.
use Rattle.std.proofs.Common.{arith}
use Rattle.std.specs.Prelude.{◌≢◌}
use Rattle.journal_opening.specs.Status.{opening_status}
use Rattle.journal_opening.specs.declared.fault.OpeningFault.{OpeningFault}
use Rattle.ssb_files.specs.Status.{status_of}
use Rattle.ssb_files.specs.declared.fault.Fault.{Fault}
use Rattle.ssb_files.specs.declared.job.JobFault.{JobFault}
use Rattle.ssb_files.specs.declared.job.JobFault.TheVariants as job
use Rattle.changes_command.specs.Status.{changes_status, feeding_status}
use Rattle.changes_command.specs.declared.fault.ChangesRefusal.{ChangesRefusal}
use Rattle.changes_command.specs.declared.fault.ChangesRefusal.TheVariants as refusal
use Rattle.changes_command.specs.declared.feed_fault.FeedFault.TheVariants.{NotAFeed, FeedEnded}
use Rattle.changes_command.specs.declared.feed_fault.FeedRefusal.{FeedRefusal}
use Rattle.changes_command.specs.declared.feed_fault.FeedRefusal.TheVariants as feed

program-told : (why : Fault) → status_of why ≢ 0
program-told why zero = grind arith

opening-told : (why : OpeningFault) → opening_status why ≢ 0
opening-told why zero = grind arith

-- a fault is told by no 0
pub changes_told : (why : JobFault ChangesRefusal) → changes_status why ≢ 0
changes_told (job.Program why) zero = program-told why zero
changes_told (job.Found (refusal.Journal why)) zero = opening-told why zero
changes_told (job.Found (refusal.Commit why)) zero = omega (arith, zero)

-- nor is one of a stream
pub feeding_told : (why : JobFault FeedRefusal) → feeding_status why ≢ 0
feeding_told (job.Program why) zero = program-told why zero
feeding_told (job.Found (feed.Changes (refusal.Journal why))) zero = opening-told why zero
feeding_told (job.Found (feed.Changes (refusal.Commit why))) zero = omega (arith, zero)
feeding_told (job.Found (feed.Feed NotAFeed)) zero = omega (arith, zero)
feeding_told (job.Found (feed.Feed FeedEnded)) zero = omega (arith, zero)

-- The reply that a client's request was given.
use Rattle.ssb_report.specs.Replies.{Refreshed, Answered, Listed, Shown, Aborted}
use Rattle.ssb_report.specs.Replies as reported
use Rattle.ssb_statements.specs.Listing.{listing_of}
use Rattle.stream_sessions.specs.declared.reply.Reply.{Reply}
use Rattle.stream_sessions.specs.declared.reply.Reply.TheVariants as given

-- a reply, as it is reported
abbrev pub reply_of : Reply → reported.Reply
reply_of (given.Refreshed result) = Refreshed result
reply_of (given.Answered answers) = Answered answers.items
reply_of (given.Listed answers listing) = Listed answers.items (listing_of listing.value)
reply_of (given.Shown order) = Shown order
reply_of given.Aborted = Aborted

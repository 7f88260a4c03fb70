-- What a reply tells where commits came before the first of the log: each number of commits counts them too.
use Rattle.std.specs.Prelude.{ℕ, ◌+◌, ◌≤◌, List, flat_map, map, Result, Ok, Err}
use Rattle.std.specs.List.{AllByRecursion}
use Rattle.row_store.specs.declared.commit.Receipt.{Receipt}
use Rattle.row_store.specs.declared.refusal.RefreshError.{RefreshError}
use Rattle.row_store.specs.declared.refusal.RefreshError.TheVariants as refresh
use Rattle.ssb_answers.specs.declared.answer.Answer.{Answer}
use Rattle.ssb_answers.specs.declared.answer.Answer.TheVariants.{Rows, Unserved}
use Rattle.ssb_base.specs.Limits.{most_commits}
use Rattle.ssb_formats.specs.ReplyTexts.{reply_shown}
use Rattle.ssb_formats.specs.declared.reply_format.ReplyFormat.{ReplyFormat}
use Rattle.ssb_report.specs.Replies.{Reply, Refreshed, Answered, Listed, Shown, Aborted}
use Rattle.ssb_report.specs.declared.order.ShownOrder.{ShownOrder}
use Rattle.ssb_report.specs.declared.order.ShownOrder.TheVariants as order
use Rattle.ssb_statements.specs.Listing.{ListingRecord, RowsRecord}
use Rattle.ssb_statements.specs.Listing as listing
use Rattle.stream_sessions.specs.declared.past.Past.{Past}

-- the most commits that may have come before: 2^62
abbrev pub most_past : ℕ
most_past = 4611686018427387904

-- a commit has its number among all commits; a refusal is after all that came before it
abbrev pub outcome_with_past : ℕ → Result Receipt RefreshError → Result Receipt RefreshError
outcome_with_past past (Ok receipt) = Ok (record { number = past + receipt.number })
outcome_with_past past (Err (refresh.Refused at action cause)) = Err (refresh.Refused (past + at) action cause)
outcome_with_past past (Err refresh.OutOfMemory) = Err refresh.OutOfMemory

-- rows are after all commits that they count
abbrev pub answer_with_past : ℕ → Answer → Answer
answer_with_past past (Rows question at rows) = Rows question (past + at) rows
answer_with_past past (Unserved question cause) = Unserved question cause

-- so are those of a statement
abbrev pub rows_with_past : ℕ → RowsRecord → RowsRecord
rows_with_past past rows = record {
  heads = rows.heads;
  are_numbers = rows.are_numbers;
  at = past + rows.at;
  rows = rows.rows;
}

abbrev pub listing_with_past : ℕ → ListingRecord → ListingRecord
listing_with_past past (listing.Rows rows) = listing.Rows (rows_with_past past rows)
listing_with_past past (listing.Unserved cause) = listing.Unserved cause

-- so are the lines of an order
abbrev pub order_with_past : ℕ → ShownOrder → ShownOrder
order_with_past past (order.Lines key at lines) = order.Lines key (past + at) lines
order_with_past past (order.Unserved key) = order.Unserved key

-- a reply, where so many commits came before
abbrev pub with_past : ℕ → Reply → Reply
with_past past (Refreshed outcome) = Refreshed (outcome_with_past past outcome)
with_past past (Answered answers) = Answered (map (answer_with_past past) answers)
with_past past (Listed answers listed) = Listed (map (answer_with_past past) answers) (listing_with_past past listed)
with_past past (Shown shown) = Shown (order_with_past past shown)
with_past past Aborted = Aborted

-- what a session tells of a reply in its format, and of replies one after another
abbrev pub reply_told : ReplyFormat → Past → Reply → List ℕ
reply_told format past reply = reply_shown format (with_past past.commits reply)

abbrev pub replies_told : ReplyFormat → Past → List Reply → List ℕ
replies_told format past replies = flat_map (reply_told format past) replies

-- a reply tells of no more commits than a log has
abbrev pub IsOfFewOutcome : Result Receipt RefreshError → Type 0
IsOfFewOutcome (Ok receipt) = receipt.number ≤ most_commits
IsOfFewOutcome (Err (refresh.Refused at action cause)) = at ≤ most_commits
IsOfFewOutcome (Err refresh.OutOfMemory) = Unit {0}

abbrev pub IsOfFewAnswer : Answer → Type 0
IsOfFewAnswer (Rows question at rows) = at ≤ most_commits
IsOfFewAnswer (Unserved question cause) = Unit {0}

abbrev pub IsOfFewListing : ListingRecord → Type 0
IsOfFewListing (listing.Rows rows) = rows.at ≤ most_commits
IsOfFewListing (listing.Unserved cause) = Unit {0}

abbrev pub IsOfFewOrder : ShownOrder → Type 0
IsOfFewOrder (order.Lines key at lines) = at ≤ most_commits
IsOfFewOrder (order.Unserved key) = Unit {0}

abbrev pub IsOfFew : Reply → Type 0
IsOfFew (Refreshed outcome) = IsOfFewOutcome outcome
IsOfFew (Answered answers) = AllByRecursion IsOfFewAnswer answers
IsOfFew (Listed answers listed) = AllByRecursion IsOfFewAnswer answers × IsOfFewListing listed
IsOfFew (Shown shown) = IsOfFewOrder shown
IsOfFew Aborted = Unit {0}

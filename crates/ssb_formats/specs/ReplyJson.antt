-- The reply to a request as a line of JSON.
use Rattle.std.specs.Prelude.{ℕ, true, List, [], ◌∷◌, ◌++◌, map, codes, Result, Ok, Err}
use Rattle.serde_json.specs.Data.{Data, Members, boolean, number, unsigned, object, member, no_members}
use Rattle.serde_json.specs.Written.{compact_text}
use Rattle.row_store.specs.declared.commit.Receipt.{Receipt}
use Rattle.row_store.specs.declared.refusal.Cause.{Cause}
use Rattle.row_store.specs.declared.refusal.RefreshError.{RefreshError}
use Rattle.row_store.specs.declared.refusal.RefreshError.TheVariants.{Refused, OutOfMemory}
use Rattle.ssb_answers.specs.declared.answer.Answer.{Answer}
use Rattle.ssb_report.specs.RefreshText.{cause_text}
use Rattle.ssb_report.specs.Replies.{Reply, Refreshed, Answered, Listed, Shown, Aborted}
use Rattle.ssb_statements.specs.Listing.{ListingRecord, Rows, Unserved}
use Rattle.ssb_text.specs.Numbers.{line_feed}
use Rattle.ssb_formats.specs.JsonText.{answer_members, cause_name, json_text, list_data, object_line, text_data}
use Rattle.ssb_formats.specs.OrderJson.{order_members}
use Rattle.ssb_formats.specs.Reports.{rows_members}

-- a member alone
abbrev pub one_member : List ℕ → Data → Members
one_member name value = member name value no_members

-- a refusal: its cause, the action that is refused, and after how many commits
abbrev pub refused_members : ℕ → ℕ → Cause → Members
refused_members at action cause =
    member (codes "action") (number (unsigned action))
    (member (codes "at") (number (unsigned at))
    (member (codes "refused") (text_data (cause_text cause)) no_members))

-- the number of a commit; or why the refresh was not applied
abbrev pub refreshed_members : Result Receipt RefreshError → Members
refreshed_members (Ok receipt) = one_member (codes "committed") (number (unsigned receipt.number))
refreshed_members (Err (Refused at action cause)) = refused_members at action cause
refreshed_members (Err OutOfMemory) = one_member (codes "refused") (text_data (codes "out of memory"))

abbrev pub aborted_members : Members
aborted_members = one_member (codes "aborted") (boolean true)

-- the object of an answer, and a line of an array of them
abbrev pub answer_data : Answer → Data
answer_data answer = object (answer_members answer)

abbrev pub array_line : List Answer → List ℕ
array_line answers = compact_text (list_data (map answer_data answers)) ++ line_feed

-- the answers to the questions of a request: the object of one alone; of several an array
abbrev pub answers_line : List Answer → List ℕ
answers_line [] = array_line []
answers_line (answer ∷ []) = json_text answer
answers_line (first ∷ next ∷ others) = array_line (first ∷ next ∷ others)

-- what is listed of a statement: its rows, or why there are none
abbrev pub listing_members : ListingRecord → Members
listing_members (Rows rows) = rows_members rows
listing_members (Unserved cause) =
    member (codes "query") (text_data (codes "sql"))
    (member (codes "unserved") (text_data (cause_name cause)) no_members)

-- the line of a reply
abbrev pub reply_line : Reply → List ℕ
reply_line (Refreshed reply) = object_line (refreshed_members reply)
reply_line (Answered answers) = answers_line answers
reply_line (Listed answers listing) = object_line (listing_members listing)
reply_line (Shown order) = object_line (order_members order)
reply_line Aborted = object_line aborted_members

-- What the subject says of a report, as laws over its definition.
use Rattle.std.specs.Prelude.{◌≡◌, ℕ, Bool, true, false, List, [], ◌∷◌, Ok, Err}
use Rattle.std.specs.List.{AllByRecursion}
use Rattle.ssb_answers.specs.declared.answer.Answer.{Answer}
use Rattle.ssb_answers.specs.declared.answer.Answer.TheVariants as answer
use Rattle.ssb_answers.specs.declared.answer.Unserved.{Unserved as Cause}
use Rattle.row_store.specs.History.{Warehouse}
use Rattle.row_store.specs.declared.refusal.RefreshError.TheVariants.{Refused, OutOfMemory}
use Rattle.ssb_script.specs.Requests.{RequestRecord}
use Rattle.ssb_report.specs.Replies.{Reply, Refreshed, Answered, Listed, Shown, Aborted, true_reply, committed_by, with_commits}
use Rattle.ssb_report.specs.Report.{AreReplies}
use Rattle.ssb_report.specs.declared.order.ShownOrder.TheVariants as order
use Rattle.ssb_statements.specs.Listing.{Rows, Unserved as NoRows}

-- the replies of the one-thread warehouse to a client's requests, one after another
abbrev pub true_replies : ℕ → Warehouse → List RequestRecord → List Reply
true_replies client warehouse [] = []
true_replies client warehouse (request ∷ requests) =
    true_reply warehouse request ∷ true_replies client
    (with_commits warehouse (committed_by client request (true_reply warehouse request))) requests

-- whether one of the answers has no rows
abbrev pub any_unserved : List Answer → Bool
any_unserved [] = false
any_unserved (answer.Rows question at rows ∷ answers) = any_unserved answers
any_unserved (answer.Unserved question cause ∷ answers) = true

-- whether a reply tells that its request was given up
abbrev pub gives_up : Reply → Bool
gives_up (Refreshed (Ok receipt)) = false
gives_up (Refreshed (Err (Refused at action cause))) = false
gives_up (Refreshed (Err OutOfMemory)) = true
gives_up (Answered answers) = any_unserved answers
gives_up (Listed answers (Rows rows)) = false
gives_up (Listed answers (NoRows cause)) = true
gives_up (Shown (order.Lines key at lines)) = false
gives_up (Shown (order.Unserved key)) = true
gives_up Aborted = false

-- they answer every list of requests
abbrev pub TrueRepliesAnswer : Type 0
TrueRepliesAnswer = (causes : Cause → Bool) (client : ℕ) (warehouse : Warehouse) (requests : List RequestRecord)
    → AreReplies causes client warehouse requests (true_replies client warehouse requests)

-- and no other replies do, where none tells that its request was given up
abbrev pub OthersGiveUp : Type 0
OthersGiveUp =
    (causes : Cause → Bool) (client : ℕ) (warehouse : Warehouse) (requests : List RequestRecord) (replies : List Reply)
    → AreReplies causes client warehouse requests replies → AllByRecursion (λ reply. gives_up reply ≡ false) replies
    → replies ≡ true_replies client warehouse requests

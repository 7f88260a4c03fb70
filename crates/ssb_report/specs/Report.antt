-- The report of a list of requests. For which causes a question may be left unanswered is given.
use Rattle.std.specs.Prelude.{◌≡◌, ℕ, Bool, List, [], ◌∷◌, ◌++◌, flat_map, Option}
use Rattle.std.specs.Io.KnownBytes.{Appends}
use Rattle.row_store.specs.History.{CommitRecord, Warehouse}
use Rattle.ssb_answers.specs.declared.answer.Unserved.{Unserved as Cause}
use Rattle.ssb_script.specs.Requests.{RequestRecord}
use Rattle.ssb_report.specs.Replies.{Reply, IsReply, reply_text, committed_by, with_commits}

-- the replies may be given to a client's requests, one after another, from a warehouse that each commit makes longer
abbrev pub AreReplies : (Cause → Bool) → ℕ → Warehouse → List RequestRecord → List Reply → Type 0
AreReplies causes client warehouse [] [] = Unit {0}
AreReplies causes client warehouse (request ∷ requests) (reply ∷ replies) =
    IsReply causes warehouse request reply × AreReplies causes client
    (with_commits warehouse (committed_by client request reply)) requests replies
AreReplies causes client warehouse [] (reply ∷ replies) = ⊥
AreReplies causes client warehouse (request ∷ requests) [] = ⊥

-- the commits that a client's requests become by these replies, in order
abbrev pub committed : ℕ → List RequestRecord → List Reply → List CommitRecord
committed client [] replies = []
committed client (request ∷ requests) [] = []
committed client (request ∷ requests) (reply ∷ replies) =
    committed_by client request reply ++ committed client requests replies

-- the report of replies
abbrev pub report_of : List Reply → List ℕ
report_of replies = flat_map reply_text replies

-- all requests of a client were answered: what was written is a report of them, and the log is longer by what it calls
-- committed
pub record Serves (causes : Cause → Bool) (client : ℕ) (old new : Warehouse) (requests : List RequestRecord)
    (before after : Option (List ℕ)) : Type 0 where
  pub replies : List Reply
  pub answered : AreReplies causes client old requests replies
  pub grown : new ≡ with_commits old (committed client requests replies)
  pub written : Appends before after (report_of replies)

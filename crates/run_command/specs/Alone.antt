-- A client alone at its table: what it is told is what the one-thread warehouse tells.
use Rattle.std.specs.Prelude.{◌≡◌, ℕ, ◌+◌, ◌<◌, ◌==◌, not, Bool, true, List, [], ◌∷◌, ◌++◌, length, take, Option, None}
use Rattle.std.specs.Io.KnownBytes.{Appends}
use Rattle.ssb_answers.specs.declared.answer.Unserved.{Unserved as Cause}
use Rattle.ssb_answers.specs.declared.answer.Unserved.TheVariants.{OutOfMemory, Twin}
use Rattle.row_store.specs.History.{Warehouse}
use Rattle.history_core.specs.declared.event.Who.TheVariants.{Client}
use Rattle.history.specs.Tokens.{TableRecord, TokenRecord, IsSound, new_token}
use Rattle.ssb_audit.specs.declared.trace.Told.{Told}
use Rattle.ssb_report.specs.Replies.{Reply, reply_text, with_commits}
use Rattle.ssb_report.specs.Report as one_thread
use Rattle.ssb_report.specs.Report.{AreReplies, committed, report_of}
use Rattle.ssb_script.specs.Requests.{RequestRecord}
use Rattle.stream_sessions.specs.Served as serving
use Rattle.stream_sessions.specs.Served.{Serves}
use Rattle.stream_sessions.specs.declared.serve_error.ServeError.{ServeError}
use Rattle.stream_sessions.specs.declared.serve_error.ServeError.TheVariants.{Write, OutOfMemory as NoMemory}

-- the table has one client, and this is it
pub record IsAlone (t : TokenRecord) : Type 0 where
  pub who : t.who ≡ Client 1
  pub clients : t.table.clients ≡ 1

-- the warehouse after the client's own commits
abbrev pub own : TokenRecord → Warehouse
own t = record { base = t.table.base; log = t.mine }

-- what the only client of a table sees is its own commits
abbrev pub AloneSeesItsOwn : Type 0
AloneSeesItsOwn = (t : TokenRecord) → IsAlone t → IsSound t → t.seen ≡ t.mine

-- the causes that a dispatcher may tell: memory, or that its copy and what it knows are of two lengths
abbrev pub may_be_told : Cause → Bool
may_be_told OutOfMemory = true
may_be_told (Twin told found) = not (told == found)

-- what the only client of a table is served from its new token on is what the one-thread warehouse serves from the base
-- on, and its commits are those that this warehouse then has
abbrev pub OneClientIsOneThread : Type 0
OneClientIsOneThread = (table : TableRecord) (after : TokenRecord) (requests : List RequestRecord)
    (told_old told_new : Option (List Told)) (was is : Option (List ℕ)) → table.clients ≡ 1
    → Serves 1 (new_token table (Client 1)) after requests told_old told_new was is
    → one_thread.Serves may_be_told 1 (record { base = table.base; log = [] }) (own after) requests was is

-- what the only client of a table is served, from any state on in which it asks nothing, is what the one-thread
-- warehouse serves after the commits that the client has made
abbrev pub AloneIsOneThread : Type 0
AloneIsOneThread = (before after : TokenRecord) (requests : List RequestRecord) (told_old told_new : Option (List Told))
    (was is : Option (List ℕ)) → IsAlone before → before.asked ≡ None
    → Serves 1 before after requests told_old told_new was is
    → one_thread.Serves may_be_told 1 (own before) (own after) requests was is

-- the one-thread warehouse has answered the first requests and one more: what was written is the report of the first
-- ones and a part of that of the last reply, of which something is left
pub record StopsAfter (done : ℕ) (old new : Warehouse) (requests : List RequestRecord)
    (before after : Option (List ℕ)) : Type 0 where
  pub replies : List Reply
  pub last : Reply
  pub count : length replies ≡ done
  pub answered : AreReplies may_be_told 1 old (take (done + 1) requests) (replies ++ last ∷ [])
  pub grown : new ≡ with_commits old (committed 1 (take (done + 1) requests) (replies ++ last ∷ []))
  pub part : List ℕ
  pub rest : List ℕ
  pub begins : reply_text last ≡ part ++ rest
  pub left : 0 < length rest
  pub written : Appends before after (report_of replies ++ part)

-- how the one-thread warehouse ends early: a report failed, or the next questions were not asked for want of memory
abbrev pub Ends : ServeError → Warehouse → Warehouse → List RequestRecord → Option (List ℕ) → Option (List ℕ) → Type 0
Ends (Write done) old new requests before after = StopsAfter done old new requests before after
Ends (NoMemory done) old new requests before after =
    (done < length requests) × one_thread.Serves may_be_told 1 old new (take done requests) before after

-- the same of what it is served where serving ends early
abbrev pub AloneEndsAsOneThread : Type 0
AloneEndsAsOneThread = (error : ServeError) (before after : TokenRecord) (requests : List RequestRecord)
    (told_old told_new : Option (List Told)) (was is : Option (List ℕ)) → IsAlone before → before.asked ≡ None
    → serving.Ends error 1 before after requests told_old told_new was is
    → Ends error (own before) (own after) requests was is

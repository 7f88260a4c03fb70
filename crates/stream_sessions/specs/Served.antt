-- A client's requests, served one after another by a server.
use Rattle.std.specs.Prelude.{◌≡◌, ℕ, ◌+◌, ◌<◌, List, [], ◌∷◌, ◌++◌, length, take, flat_map, Option, None}
use Rattle.std.specs.Io.KnownBytes.{Appends}
use Rattle.history_core.specs.declared.response.Response.{Response}
use Rattle.history_core.specs.Events.{Questions}
use Rattle.history_core.specs.Responses.{answers_in}
use Rattle.ssb_answers.specs.declared.answer.Answer.{Answer}
use Rattle.ssb_answers.specs.declared.answer.Answer.TheVariants.{Rows, Unserved}
use Rattle.history.specs.Tokens.{TokenRecord, IsSound}
use Rattle.ssb_script.specs.Requests.{RequestRecord, Refresh, Ask, Order, Abort, questions_in, statement_in}
use Rattle.ssb_report.specs.Replies.{Reply, Refreshed, Answered, Listed, Shown, Aborted, IsListedOf, reply_text}
use Rattle.ssb_report.specs.Report.{report_of}
use Rattle.ssb_report.specs.declared.order.ShownOrder.{ShownOrder}
use Rattle.ssb_report.specs.declared.order.ShownOrder.TheVariants as order
use Rattle.row_store.specs.History.{lines_after}
use Rattle.row_store.specs.Lines.{lines_of}
use Rattle.ssb_clients.specs.Clients as client
use Rattle.ssb_clients.specs.Clients.{Asks, HandsBack, Polls}
use Rattle.ssb_audit.specs.declared.trace.Told.{Told}
use Rattle.stream_sessions.specs.Keeping.{KeepsMore}
use Rattle.stream_sessions.specs.declared.serve_error.ServeError.{ServeError}
use Rattle.stream_sessions.specs.declared.serve_error.ServeError.TheVariants.{Write, OutOfMemory}

-- the client asked these questions in one request, and got these answers to it
pub record IsAnswered (before : TokenRecord) (questions : Questions) (answers : List Answer) (after : TokenRecord) :
    Type 0 where
  pub asking : TokenRecord
  pub asked : Asks before questions asking
  pub asking_sound : IsSound asking
  pub response : Response
  pub polled : Polls asking response after
  pub sound : IsSound after
  pub answers_are : answers ≡ answers_in response

-- the client sees more, and nothing else of it changed; it is shown the live lines of the order of this key, after all
-- commits that it sees then, which begin with those that it had seen; or memory ran out for them
abbrev pub IsShown : TokenRecord → ℕ → ShownOrder → TokenRecord → Type 0
IsShown before key (order.Lines shown at lines) after =
    (shown ≡ key) × (at ≡ length after.seen) × (lines ≡ lines_of key (lines_after before.table.base after.seen))
    × HandsBack before after
IsShown before key (order.Unserved shown) after = (shown ≡ key) × HandsBack before after

-- the reply to a client's request, and what the client sees, made and asks then: as the server's calls say; an `abort`
-- calls nothing
abbrev pub IsServed : ℕ → TokenRecord → RequestRecord → Reply → TokenRecord → Type 0
IsServed number before (Refresh actions) (Refreshed reply) after =
    client.Refreshed before number actions reply after × IsSound after
IsServed number before (Ask asking) (Answered answers) after =
    (statement_in asking ≡ None) × IsAnswered before (questions_in asking) answers after
IsServed number before (Ask asking) (Listed answers listing) after =
    IsListedOf (statement_in asking) answers listing × IsAnswered before (questions_in asking) answers after
IsServed number before (Order key) (Shown shown) after = IsShown before key shown after × IsSound after
IsServed number before Abort Aborted after = after ≡ before
IsServed number before request reply after = ⊥

-- the replies to a client's requests, each of which finds the client as the one before it left it
abbrev pub AreServed : ℕ → TokenRecord → List RequestRecord → List Reply → TokenRecord → Type 0
AreServed number before [] [] after = after ≡ before
AreServed number before (request ∷ requests) (reply ∷ replies) after =
    (between : TokenRecord) × IsServed number before request reply between × AreServed number between requests replies after
AreServed number before [] (reply ∷ replies) after = ⊥
AreServed number before (request ∷ requests) [] after = ⊥

-- what a client is told by an answer with rows
abbrev pub told_by : ℕ → Answer → List Told
told_by client (Rows question at rows) = record { client = client; at = at; question = question; rows = rows } ∷ []
told_by client (Unserved question cause) = []

-- the answers with rows that a reply has
abbrev pub told_of : ℕ → Reply → List Told
told_of client (Answered answers) = flat_map (told_by client) answers
told_of client (Listed answers listing) = flat_map (told_by client) answers
told_of client (Refreshed reply) = []
told_of client (Shown shown) = []
told_of client Aborted = []

-- all requests were served: what was written is the report of the replies, and the answers with rows are kept
pub record Serves (number : ℕ) (old new : TokenRecord) (requests : List RequestRecord) (told_old told_new : Option (List Told))
    (before after : Option (List ℕ)) : Type 0 where
  pub replies : List Reply
  pub served : AreServed number old requests replies new
  pub kept : KeepsMore told_old told_new (flat_map (told_of number) replies)
  pub written : Appends before after (report_of replies)

-- the first requests and one more were served: what was written is the report of the first ones and a part of that of
-- the
-- last reply, of which something is left
pub record StopsAfter (done number : ℕ) (old new : TokenRecord) (requests : List RequestRecord) (told_old told_new : Option (List Told))
    (before after : Option (List ℕ)) : Type 0 where
  pub replies : List Reply
  pub last : Reply
  pub count : length replies ≡ done
  pub served : AreServed number old (take (done + 1) requests) (replies ++ last ∷ []) new
  pub kept : KeepsMore told_old told_new (flat_map (told_of number) (replies ++ last ∷ []))
  pub part : List ℕ
  pub rest : List ℕ
  pub begins : reply_text last ≡ part ++ rest
  pub left : 0 < length rest
  pub written : Appends before after (report_of replies ++ part)

-- how serving ends early: a report failed, or the next questions were not asked for want of memory
abbrev pub Ends : ServeError → ℕ → TokenRecord → TokenRecord → List RequestRecord → Option (List Told)
    → Option (List Told) → Option (List ℕ) → Option (List ℕ) → Type 0
Ends (Write done) number old new requests told_old told_new before after =
    StopsAfter done number old new requests told_old told_new before after
Ends (OutOfMemory done) number old new requests told_old told_new before after =
    (done < length requests) × Serves number old new (take done requests) told_old told_new before after

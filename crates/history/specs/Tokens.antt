-- What a token shows: who it is, what it has seen, made, given and done, and what it holds; and what each call makes
-- of that.
use Rattle.std.specs.Prelude.{◌≡◌, ◌⊎◌, ℕ, ◌==◌, Bool, true, false, All, if◌then◌else◌, List, [], ◌∷◌, ◌++◌, length}
use Rattle.std.specs.Prelude.{map, Option, Some, None}
use Rattle.std.specs.List.{range_with_len}
use Rattle.atomic_table.specs.Seated.{TableId}
use Rattle.ssb_base.specs.Base.{Tables}
use Rattle.history_core.specs.declared.response.Response.{Response}
use Rattle.row_store.specs.History.{CommitRecord, Warehouse, IsPrefix}
use Rattle.row_store.specs.Refusals.{refusal_of}
use Rattle.row_store.specs.Legal.{IsLegal}
use Rattle.history_core.specs.declared.event.Who.{Who}
use Rattle.history_core.specs.declared.event.Who.TheVariants.{Client, Dispatcher}
use Rattle.history_core.specs.declared.event.EventReply.{EventReply}
use Rattle.history_core.specs.declared.event.EventReply.TheVariants.{Done, Committed, Length, Asked as Asks}
use Rattle.history_core.specs.Events.{Questions}
use Rattle.history_core.specs.OwnCommits.{IsOfClients}
use Rattle.history_core.specs.Events.{Event}
use Rattle.history_core.specs.Events as event
use Rattle.history_core.specs.Deeds.{Deed}
use Rattle.history.specs.declared.request.PostedRequest.{PostedRequest}
use Rattle.history.specs.declared.request.Grabbed.{Grabbed}
use Rattle.history_core.specs.declared.dispatcher.Given.{Given}
use Rattle.history.specs.Words.{Owns, request, IsRight, IsRightAt, IsFresh, given_to}
use Rattle.history_core.specs.Parts.{mark_after}
use Rattle.history.specs.Members.{number_of, answer_named, told_by}

-- a table, by its name and what it was opened with
pub record TableRecord : Type 0 where
  pub id : TableId
  pub base : Tables
  pub clients : ℕ
  pub dispatchers : ℕ

-- a token as contracts see it
pub record TokenRecord : Type 0 where
  pub table : TableRecord
  pub who : Who
  -- the history as far as it has seen it, and the commits that it made
  pub seen : List CommitRecord
  pub mine : List CommitRecord
  -- lists that are beginnings of the history, which it has not looked at since
  pub beside : List (List CommitRecord)
  pub has_rows : Bool
  pub has_writer : Bool
  -- what a client asked and has not collected
  pub asked : Option PostedRequest
  -- the length of the history at a dispatcher's last return of the rows, and the mark at its last return of the
  -- writer; a grab and taking the writer clear both
  pub mark : Option ℕ
  pub version : Option ℕ
  -- what a dispatcher has in hand, the newest first, and the answers that it gave
  pub grabbed : List Grabbed
  pub given : List Given
  -- all that it did, and what it was told, in order
  pub did : List Deed

-- what a client or dispatcher that opens has
abbrev pub new_token : TableRecord → Who → TokenRecord
new_token table who =
    record {
      table = table;
      who = who;
      seen = [];
      mine = [];
      beside = [];
      has_rows = false;
      has_writer = false;
      asked = None;
      mark = None;
      version = None;
      grabbed = [];
      given = [];
      did = [];
    }

-- one token for each client, and one for each dispatcher, by number from 1
abbrev pub new_clients : TableRecord → List TokenRecord
new_clients table = map (λ number. new_token table (Client number)) (range_with_len 1 table.clients)

abbrev pub new_dispatchers : TableRecord → List TokenRecord
new_dispatchers table = map (λ number. new_token table (Dispatcher number)) (range_with_len 1 table.dispatchers)

abbrev pub IsClient : TokenRecord → Type 0
IsClient t = (number : ℕ) × (t.who ≡ Client number)

abbrev pub IsDispatcher : TokenRecord → Type 0
IsDispatcher t = (number : ℕ) × (t.who ≡ Dispatcher number)

-- what is true of each token: its history is legal, and has its commits
pub record IsSound (t : TokenRecord) : Type 0 where
  pub legal : IsLegal t.table.base t.seen
  pub named : IsOfClients t.table.clients t.seen
  pub owns : Owns t.who t.mine t.seen

-- the token's record with one event more, and its reply
abbrev pub did_more : TokenRecord → Event → EventReply → List Deed
did_more t event reply = t.did ++ record { event = event; reply = reply } ∷ []

-- the token has looked: what it sees begins with what it had seen and with what it had beside that
pub record Saw (before after : TokenRecord) : Type 0 where
  pub begins : IsPrefix before.seen after.seen
  pub beside : All (λ list. IsPrefix list after.seen) before.beside
  pub now : after ≡ record before {
    seen = after.seen;
    beside = [];
    did = did_more before (event.Look before.who) (Length (length after.seen));
  }

-- the token has looked, and took the row store
pub record Took (before after : TokenRecord) : Type 0 where
  pub begins : IsPrefix before.seen after.seen
  pub beside : All (λ list. IsPrefix list after.seen) before.beside
  pub now : after ≡ record before {
    seen = after.seen;
    beside = [];
    has_rows = true;
    did = did_more before (event.TakeRows before.who) Done;
  }

-- the token after it gave the rows back unchanged
abbrev pub gave_back : TokenRecord → TokenRecord
gave_back t = record t {
  has_rows = false;
  mark = mark_after t.who (length t.seen) t.mark;
  did = did_more t (event.PutRows t.who None) Done;
}

-- the token after it gave the rows back with one commit more, which has a number from 1
abbrev pub committed : TokenRecord → CommitRecord → TokenRecord
committed t commit =
    record t {
      seen = t.seen ++ commit ∷ [];
      mine = t.mine ++ commit ∷ [];
      has_rows = false;
      did = did_more t (event.PutRows t.who (Some commit.actions)) (Committed (length (t.seen ++ commit ∷ [])));
    }

-- the store as it was taken, or with one commit more of the token's client
abbrev pub MayPut : TokenRecord → Warehouse → Type 0
MayPut t rows = (rows.base ≡ t.table.base)
    × ((rows.log ≡ t.seen) ⊎ ((commit : CommitRecord) × (t.who ≡ Client commit.client)
    × (refusal_of t.table.base t.seen commit.actions ≡ None) × (rows.log ≡ t.seen ++ commit ∷ [])))

-- the token after it gave this store back
abbrev pub Put : TokenRecord → Warehouse → TokenRecord → Type 0
Put before rows after = ((rows.log ≡ before.seen) → after ≡ gave_back before)
    × ((commit : CommitRecord) → rows.log ≡ before.seen ++ commit ∷ [] → after ≡ committed before commit)

-- the client asked these questions in one request, with the length of what it has seen as the floor
abbrev pub posted : TokenRecord → Questions → TokenRecord
posted t questions =
    record t {
      asked = Some (request questions (length t.seen));
      did = did_more t (event.Post (number_of t.who) questions) Done;
    }

-- the request of this client among those in hand
abbrev pub request_of : ℕ → List Grabbed → Option PostedRequest
request_of client [] = None
request_of client (first ∷ others) = if first.client == client then Some first.request else request_of client others

-- those in hand without that of this client
abbrev pub without : ℕ → List Grabbed → List Grabbed
without client [] = []
without client (first ∷ others) = if first.client == client then others else first ∷ without client others

-- a dispatcher has one request more in hand, and neither mark nor version
pub record Grabs (before : TokenRecord) (client : ℕ) (questions : Questions) (after : TokenRecord) : Type 0 where
  pub floor : ℕ
  pub now : after ≡ record before {
    mark = None;
    version = None;
    grabbed = record { client = client; request = request questions floor } ∷ before.grabbed;
    did =
        did_more before (event.Grab (number_of before.who) client) (Asks questions);
  }

-- the answer is to this request, and right at the token's version
abbrev pub Serves : TokenRecord → PostedRequest → Response → Type 0
Serves t asked reply = IsRightAt t.table.base t.seen t.version asked reply

-- the client's request is in hand, and this answer serves it
pub record MayAnswer (t : TokenRecord) (client : ℕ) (reply : Response) : Type 0 where
  pub asked : PostedRequest
  pub held : request_of client t.grabbed ≡ Some asked
  pub serves : Serves t asked reply

-- the client's request has left the hand, and its answer was given
pub record Answers (before : TokenRecord) (client : ℕ) (reply : Response) (after : TokenRecord) : Type 0 where
  pub asked : PostedRequest
  pub held : request_of client before.grabbed ≡ Some asked
  pub fresh : IsFresh (given_to client asked reply)
  pub now : after ≡ record before {
    grabbed = without client before.grabbed;
    given = before.given ++ given_to client asked reply ∷ [];
    did =
        did_more before (answer_named (number_of before.who) client reply) Done;
  }

-- a client has collected the answer to what it asked, which is right in a history that the next look shows to be a
-- beginning
pub record Collected (before : TokenRecord) (reply : Response) (after : TokenRecord) : Type 0 where
  pub asked : PostedRequest
  pub was : before.asked ≡ Some asked
  pub history : List CommitRecord
  pub right : IsRight before.table.base history asked reply
  pub now : after ≡ record before {
    asked = None;
    beside = history ∷ before.beside;
    did = did_more before (event.Collect (number_of before.who)) (told_by reply);
  }

-- the token has the writer, and what that has taken lies beside what it has seen
abbrev pub with_writer : TokenRecord → List CommitRecord → TokenRecord
with_writer t taken =
    record t {
      beside = taken ∷ t.beside;
      has_writer = true;
      mark = None;
      version = None;
      did = did_more t (event.TakeWriter (number_of t.who)) Done;
    }

-- the token gave the writer back
abbrev pub without_writer : TokenRecord → TokenRecord
without_writer t =
    record t { has_writer = false; version = t.mark; did = did_more t (event.PutWriter (number_of t.who)) Done }

-- the token holds neither part, and has no request in hand
pub record IsFree (t : TokenRecord) : Type 0 where
  pub rows : t.has_rows ≡ false
  pub writer : t.has_writer ≡ false
  pub hand : t.grabbed ≡ []

-- What the calls of a client do to its token.
use Rattle.std.specs.Prelude.{◌≡◌, ℕ, Bool, false, List, [], ◌∷◌, ◌++◌, length, Some, None, Result, Ok, Err}
use Rattle.std.specs.Option.{is_some}
use Rattle.ssb_schema.specs.declared.refresh.Action.{Action}
use Rattle.row_store.specs.History.{CommitRecord, IsPrefix}
use Rattle.row_store.specs.Refusals.{refusal_of}
use Rattle.row_store.specs.declared.commit.Receipt.{Receipt}
use Rattle.row_store.specs.declared.refusal.RefreshError.{RefreshError}
use Rattle.row_store.specs.declared.refusal.RefreshError.TheVariants as refresh
use Rattle.history_core.specs.Events.{Questions}
use Rattle.history_core.specs.declared.response.Response.{Response}
use Rattle.history_core.specs.declared.event.Who.TheVariants.{Client}
use Rattle.history.specs.declared.request.PostedRequest.{PostedRequest}
use Rattle.history.specs.Tokens.{TableRecord, TokenRecord}
use Rattle.history.specs.Words.{IsRight, request}
use Rattle.ssb_clients.specs.Deeds as deeds

-- the token is a client's at this table, and does not hold the rows
pub record IsClient (table : TableRecord) (number : ℕ) (t : TokenRecord) : Type 0 where
  pub table_is : t.table ≡ table
  pub who_is : t.who ≡ Client number
  pub rows : t.has_rows ≡ false

-- a client between two calls
pub record IsAtRest (number : ℕ) (asking : Bool) (t : TokenRecord) : Type 0 where
  pub who_is : t.who ≡ Client number
  pub rows : t.has_rows ≡ false
  pub asking_is : asking ≡ is_some t.asked

-- the client sees a history that begins with what it had seen, and one commit of its own after that
pub record Commits (before : TokenRecord) (commit : CommitRecord) (number : ℕ) (after : TokenRecord) : Type 0 where
  pub history : List CommitRecord
  pub begins : IsPrefix before.seen history
  pub accepted : refusal_of before.table.base history commit.actions ≡ None
  pub number_is : number ≡ length after.seen
  pub now : after ≡ record before {
    seen = history ++ commit ∷ [];
    mine = before.mine ++ commit ∷ [];
    beside = [];
    did = before.did ++ deeds.committed before.who commit.actions number;
  }

-- the client looked: it sees more, and nothing else of it changed
pub record Looks (before after : TokenRecord) : Type 0 where
  pub begins : IsPrefix before.seen after.seen
  pub now : after ≡ record before {
    seen = after.seen;
    beside = [];
    did = before.did ++ deeds.looked before.who (length after.seen) ∷ [];
  }

-- the client took the row store and gave it back as it was: it sees more, and nothing else of it changed
pub record HandsBack (before after : TokenRecord) : Type 0 where
  pub begins : IsPrefix before.seen after.seen
  pub now : after ≡ record before {
    seen = after.seen;
    beside = [];
    did = before.did ++ deeds.handed_back before.who;
  }

-- a refresh: a commit, or a refusal after what is seen then, or want of memory where there is none: the row store's
-- growth was refused
abbrev pub Refreshed : TokenRecord → ℕ → List Action → Result Receipt RefreshError → TokenRecord → Type 0
Refreshed before client actions (Ok receipt) after = Commits before (record { client = client; actions = actions })
    receipt.number after
Refreshed before client actions (Err (refresh.Refused at action cause)) after =
    (at ≡ length after.seen) × (refusal_of after.table.base after.seen actions ≡ Some
    (record { action = action; cause = cause })) × HandsBack before after
Refreshed before client actions (Err refresh.OutOfMemory) after =
    (refusal_of after.table.base after.seen actions ≡ None) × HandsBack before after

-- the client has asked these questions in one request, with what it sees then as floor
pub record Asks (before : TokenRecord) (questions : Questions) (after : TokenRecord) : Type 0 where
  pub begins : IsPrefix before.seen after.seen
  pub now : after ≡ record before {
    seen = after.seen;
    beside = [];
    asked = Some (request questions (length after.seen));
    did = before.did ++ deeds.asked before.who questions (length after.seen);
  }

-- the client got an answer to what it had asked, right in what it sees then
pub record Polls (before : TokenRecord) (reply : Response) (after : TokenRecord) : Type 0 where
  pub asked : PostedRequest
  pub was : before.asked ≡ Some asked
  pub right : IsRight before.table.base after.seen asked reply
  pub begins : IsPrefix before.seen after.seen
  pub now : after ≡ record before {
    seen = after.seen;
    beside = [];
    asked = None;
    did = before.did ++ deeds.polled before.who reply (length after.seen);
  }

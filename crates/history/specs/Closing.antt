-- With which tokens a table is closed, and what is left then.
use Rattle.std.specs.Prelude.{◌≡◌, ℕ, ◌+◌, ◌<◌, ◌==◌, false, All, List, ◌++◌, length, map, None, count_by}
use Rattle.row_store.specs.History.{CommitRecord}
use Rattle.history.specs.declared.view.Terms.{Terms}
use Rattle.history.specs.declared.view.Member.{Member}
use Rattle.history.specs.Members.{number_of}
use Rattle.history.specs.Seats.{HasTrueRun}
use Rattle.history.specs.Tokens.{TableRecord, TokenRecord, IsClient, IsDispatcher, IsFree}

-- so many tokens, and each number from 1 to their count once
pub record AreNumbered (count : ℕ) (tokens : List TokenRecord) : Type 0 where
  pub count_is : length tokens ≡ count
  pub each : (before : ℕ) → before < count → count_by (λ (t : TokenRecord). number_of t.who == before + 1) tokens ≡ 1

-- a client's token of this table, which does not hold the rows and has asked nothing
pub record IsClientOf (table : TableRecord) (t : TokenRecord) : Type 0 where
  pub table_is : t.table ≡ table
  pub client : IsClient t
  pub rows : t.has_rows ≡ false
  pub quiet : t.asked ≡ None

-- a dispatcher's token of this table, which holds neither part and no request
pub record IsDispatcherOf (table : TableRecord) (t : TokenRecord) : Type 0 where
  pub table_is : t.table ≡ table
  pub dispatcher : IsDispatcher t
  pub free : IsFree t

-- all clients' tokens of the table, each once
pub record AreClients (table : TableRecord) (tokens : List TokenRecord) : Type 0 where
  pub numbered : AreNumbered table.clients tokens
  pub left : All (IsClientOf table) tokens

-- all dispatchers' tokens of the table, each once
pub record AreDispatchers (table : TableRecord) (tokens : List TokenRecord) : Type 0 where
  pub numbered : AreNumbered table.dispatchers tokens
  pub left : All (IsDispatcherOf table) tokens

abbrev pub terms_in : TableRecord → Terms
terms_in table = record { base = table.base; clients = table.clients; dispatchers = table.dispatchers }

-- what a token says of its client or dispatcher
abbrev pub member_of : TokenRecord → Member
member_of t = record {
  who = t.who;
  seen = t.seen;
  mine = t.mine;
  mark = t.mark;
  version = t.version;
  given = t.given;
  did = t.did;
}

abbrev pub members_in : List TokenRecord → List Member
members_in tokens = map member_of tokens

-- the log is that of a true run, in which each token of these two lists did, and was told, what it says
abbrev pub IsLogOf : TableRecord → List TokenRecord → List TokenRecord → List CommitRecord → Type 0
IsLogOf table clients dispatchers log = HasTrueRun (terms_in table) (members_in clients ++ members_in dispatchers) log

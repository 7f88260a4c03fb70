-- The tokens that a server is opened with, and that it is closed with.
use Rattle.std.specs.Prelude.{◌≡◌, ℕ, All, List, [], ◌∷◌, ◌++◌, Option, Some, None, false}
use Rattle.row_store.specs.History.{CommitRecord, IsPrefix}
use Rattle.row_store.specs.Legal.{IsLegal}
use Rattle.ssb_base.specs.Base.{Tables}
use Rattle.history_core.specs.OwnCommits.{IsOfClients}
use Rattle.history_core.specs.declared.event.Who.TheVariants.{Client, Dispatcher}
use Rattle.history.specs.Closing.{AreNumbered, IsLogOf}
use Rattle.history.specs.Tokens.{TableRecord, TokenRecord, IsFree}
use Rattle.history.specs.Words.{Owns}

-- a client's token that has done nothing yet
pub record IsNewClient (t : TokenRecord) : Type 0 where
  pub number : ℕ
  pub who_is : t.who ≡ Client number
  pub free : IsFree t
  pub quiet : t.asked ≡ None

-- a client's token that does not hold the rows
pub record IsResting (t : TokenRecord) : Type 0 where
  pub number : ℕ
  pub who_is : t.who ≡ Client number
  pub rows : t.has_rows ≡ false

-- a dispatcher's token that holds nothing
pub record IsLeft (t : TokenRecord) : Type 0 where
  pub number : ℕ
  pub who_is : t.who ≡ Dispatcher number
  pub free : IsFree t

-- a client's token of this table that has asked nothing
pub record IsQuiet (table : TableRecord) (t : TokenRecord) : Type 0 where
  pub table_is : t.table ≡ table
  pub quiet : t.asked ≡ None

-- a token of this table
abbrev pub IsOf : TableRecord → TokenRecord → Type 0
IsOf table t = t.table ≡ table

-- each client and each dispatcher of the table is there once
pub record AreAllThere (table : TableRecord) (clients dispatchers : List TokenRecord) : Type 0 where
  pub clients_are : AreNumbered table.clients clients
  pub dispatchers_are : AreNumbered table.dispatchers dispatchers

-- the tokens of the dispatchers, and behind them that of who reads the log, where there is one
abbrev pub with_reader : List TokenRecord → Option TokenRecord → List TokenRecord
with_reader dispatchers None = dispatchers
with_reader dispatchers (Some reader) = dispatchers ++ reader ∷ []

-- what a table leaves that is closed with these tokens: its base, and every commit
pub record Leaves (table : TableRecord) (clients dispatchers : List TokenRecord) (base : Tables)
    (log : List CommitRecord) : Type 0 where
  pub base_is : base ≡ table.base
  pub legal : IsLegal table.base log
  pub named : IsOfClients table.clients log
  pub clients_saw : All (λ (t : TokenRecord). IsPrefix t.seen log) clients
  pub dispatchers_saw : All (λ (t : TokenRecord). IsPrefix t.seen log) dispatchers
  pub true_log : IsLogOf table clients dispatchers log
  pub owns : All (λ (t : TokenRecord). Owns t.who t.mine log) clients

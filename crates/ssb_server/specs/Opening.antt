-- What a server is opened with, and why none is.
use Rattle.std.specs.Prelude.{◌≡◌, ℕ, ◌≤◌, true, All, List, [], length}
use Rattle.ssb_base.specs.Base.{Tables}
use Rattle.history_core.specs.declared.event.Who.TheVariants.{Dispatcher}
use Rattle.history.specs.Tokens.{TokenRecord, IsFree}
use Rattle.twin_cell.specs.Twin.{Reading}
use Rattle.row_store.specs.State.{state_of}
use Rattle.fact_columns.specs.Stored.{columns_state}
use Rattle.history_core.specs.Counts.{most_clients}
use Rattle.ssb_clients.specs.Counts.{most_dispatchers, has_reader}
use Rattle.ssb_clients.specs.declared.unneeded.Keeps.{Keeps}
use Rattle.ssb_server.specs.declared.loaded.Loaded.TheInside.{Inside}
use Rattle.ssb_server.specs.declared.opening.OpenFault.{OpenFault}
use Rattle.ssb_server.specs.declared.opening.OpenFault.TheVariants.{ClientCount, DispatcherCount, NoReader, OutOfMemory}

abbrev pub IsClientCount : ℕ → Type 0
IsClientCount clients = (1 ≤ clients) × (clients ≤ most_clients)

abbrev pub IsDispatcherCount : ℕ → Type 0
IsDispatcherCount dispatchers = (1 ≤ dispatchers) × (dispatchers ≤ most_dispatchers)

-- as many clients and dispatchers as a server may have
abbrev pub AreCounts : ℕ → ℕ → Type 0
AreCounts clients dispatchers = IsClientCount clients × IsDispatcherCount dispatchers

-- the counts are looked at in this order; the other faults come where both are right
abbrev pub IsOpenFault : ℕ → ℕ → OpenFault → Type 0
IsOpenFault clients dispatchers ClientCount = ¬ IsClientCount clients
IsOpenFault clients dispatchers DispatcherCount = IsClientCount clients × (¬ IsDispatcherCount dispatchers)
IsOpenFault clients dispatchers NoReader = AreCounts clients dispatchers
IsOpenFault clients dispatchers OutOfMemory = AreCounts clients dispatchers

-- a dispatcher's token over this base that has done nothing yet
pub record IsNewDispatcher (base : Tables) (t : TokenRecord) : Type 0 where
  pub base_is : t.table.base ≡ base
  pub number : ℕ
  pub who_is : t.who ≡ Dispatcher number
  pub free : IsFree t

-- a reader over this base that was told nothing
abbrev pub IsNewReader : Tables → Reading → Type 0
IsNewReader base reader = (reader.base ≡ base) × (reader.told ≡ [])

-- these are tokens of new dispatchers, and where somebody reads the log, there is one for it
pub record MayRead (keeps : Keeps) (tokens : List TokenRecord) : Type 0 where
  pub base : Tables
  pub new : All (IsNewDispatcher base) tokens
  pub some : has_reader keeps ≡ true → 1 ≤ length tokens

-- tokens of new dispatchers, and as many new readers, all over one base
pub record AreSeats (tokens : List TokenRecord) (readers : List Reading) : Type 0 where
  pub base : Tables
  pub tokens_are : All (IsNewDispatcher base) tokens
  pub readers_are : All (IsNewReader base) readers
  pub count : length readers ≡ length tokens

-- the rows and the columns are those of the base, without commits
pub record IsLoaded (loaded : Inside) : Type 0 where
  pub base : loaded.base.value ≡ loaded.rows.base
  pub rows : loaded.rows.log ≡ []
  pub columns : columns_state loaded.columns ≡ state_of loaded.rows.base []

-- What a server keeps beside its table.
use Rattle.std.specs.Prelude.{◌≡◌, ℕ, ◌≤◌}
use Rattle.ssb_base.specs.Base.{Tables}
use Rattle.history.specs.Tokens.{TableRecord}
use Rattle.history_core.specs.Counts.{most_clients}
use Rattle.ssb_clients.specs.Counts.{most_at_table}

-- the base and the numbers of clients and dispatchers are the table's; who reads the log is one of the dispatchers
pub record IsServed (table : TableRecord) (base : Tables) (clients dispatchers : ℕ) : Type 0 where
  pub base_is : base ≡ table.base
  pub clients_is : clients ≡ table.clients
  pub dispatchers_is : dispatchers ≡ table.dispatchers
  pub few_clients : clients ≤ most_clients
  pub few_dispatchers : dispatchers ≤ most_at_table

-- Whose commits a history has.
use Rattle.std.specs.Prelude.{◌≡◌, ℕ, ◌≤◌, ◌==◌, List, length, filter, Some, slice_get}
use Rattle.row_store.specs.History.{CommitRecord}
use Rattle.history_core.specs.Numbered.{numbered}
use Rattle.history_core.specs.World.{World, ClientState}

-- the commits of one client, in order
abbrev pub commits_of : ℕ → List CommitRecord → List CommitRecord
commits_of client history = filter (λ commit. commit.client == client) history

-- each commit is one of these clients'
pub record IsOfClients (clients : ℕ) (history : List CommitRecord) : Type 0 where
  pub named : (place : ℕ) (commit : CommitRecord) → slice_get history place ≡ Some commit
      → (1 ≤ commit.client) × (commit.client ≤ clients)

-- the commits of the history that have a client's number are those that this client made, in order, and there are no
-- others
pub record OwnCommits (clients : ℕ) (w : World) : Type 0 where
  pub own : (number : ℕ) (c : ClientState) → numbered w.clients number ≡ Some c → c.mine ≡ commits_of number w.history
  pub named : IsOfClients clients w.history
  pub count : length w.clients ≡ clients

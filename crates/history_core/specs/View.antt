-- The world that the machine's fields show.
use Rattle.std.specs.Prelude.{◌≡◌, ℕ, ◌≤◌, List, length, take, map, Option, Some, None}
use Rattle.row_store.specs.History.{CommitRecord}
use Rattle.history_core.specs.declared.client.WorldClient.{WorldClient}
use Rattle.history_core.specs.declared.dispatcher.WorldDispatcher.{WorldDispatcher}
use Rattle.history_core.specs.declared.world.World.TheInside.{Inside}
use Rattle.history_core.specs.Numbered.{numbered}
use Rattle.history_core.specs.World.{World, ClientState, DispatcherState}
use Rattle.history_core.specs.OwnCommits.{commits_of}

-- what a client has seen are the first commits, what it made are those with its number
abbrev pub client_in : List CommitRecord → WorldClient → ClientState
client_in history client = record {
  seen = take client.seen history;
  mine = commits_of client.number history;
  mailbox = client.mailbox;
}

abbrev pub dispatcher_in : List CommitRecord → WorldDispatcher → DispatcherState
dispatcher_in history dispatcher = record {
  seen = take dispatcher.seen history;
  mark = dispatcher.mark;
  version = dispatcher.version;
  given = dispatcher.given;
}

abbrev pub world_in : Inside → World
world_in w = record {
  base = w.store.base;
  history = w.store.log;
  rows = w.rows;
  writer = w.writer;
  clients = map (client_in w.store.log) w.clients.items;
  dispatchers = map (dispatcher_in w.store.log) w.dispatchers.items;
}

-- a number of commits of which there are at least so many, if it is there
abbrev pub IsWithin : Option ℕ → ℕ → Type 0
IsWithin None commits = Unit {0}
IsWithin (Some mark) commits = mark ≤ commits

-- each client has its number and has seen no more than there is
pub record ClientsFit (commits : ℕ) (clients : List WorldClient) : Type 0 where
  pub own : (number : ℕ) (client : WorldClient) → numbered clients number ≡ Some client
      → (client.number ≡ number) × (client.seen ≤ commits)

pub record DispatchersFit (commits : ℕ) (dispatchers : List WorldDispatcher) : Type 0 where
  pub own : (number : ℕ) (dispatcher : WorldDispatcher) → numbered dispatchers number ≡ Some dispatcher
      → (dispatcher.seen ≤ commits) × IsWithin dispatcher.mark commits × IsWithin dispatcher.version commits

pub record IsWorld (w : Inside) : Type 0 where
  pub base : w.base.value ≡ w.store.base
  pub commits : w.commits.items ≡ w.store.log
  pub clients : ClientsFit (length w.store.log) w.clients.items
  pub dispatchers : DispatchersFit (length w.store.log) w.dispatchers.items

-- Clients and dispatchers as they begin.
use Rattle.std.specs.Prelude.{◌≡◌, ℕ, ◌+◌, List, [], length, Some, None, slice_get}
use Rattle.history_core.specs.declared.mailbox.Mailbox.TheVariants.{Empty}
use Rattle.history_core.specs.declared.client.WorldClient.{WorldClient}
use Rattle.history_core.specs.declared.dispatcher.WorldDispatcher.{WorldDispatcher}

-- so many clients, each with its number
pub record OpeningClients (count : ℕ) (clients : List WorldClient) : Type 0 where
  pub count_is : length clients ≡ count
  pub each : (place : ℕ) (client : WorldClient) → slice_get clients place ≡ Some client
      → client ≡ record { number = place + 1; seen = 0; mailbox = Empty }

-- so many dispatchers
pub record OpeningDispatchers (count : ℕ) (dispatchers : List WorldDispatcher) : Type 0 where
  pub count_is : length dispatchers ≡ count
  pub each : (place : ℕ) (dispatcher : WorldDispatcher) → slice_get dispatchers place ≡ Some dispatcher
      → dispatcher ≡ record { seen = 0; mark = None; version = None; given = [] }

-- The requests that a dispatcher has in hand, as it keeps them.
use Rattle.std.specs.Prelude.{◌≡◌, ℕ, List, [], ◌∷◌, ◌++◌}
use Rattle.history_core.specs.Events.{Questions}
use Rattle.history.specs.declared.request.Grabbed.{Grabbed}

-- clients and what each of them asks, in the order in which they were grabbed
pub record Hand : Type 0 where
  pub clients : List ℕ
  pub requests : List Questions

-- those of a token's requests, whose newest comes first
abbrev pub clients_of : List Grabbed → List ℕ
clients_of [] = []
clients_of (newest ∷ others) = clients_of others ++ newest.client ∷ []

abbrev pub requests_of : List Grabbed → List Questions
requests_of [] = []
requests_of (newest ∷ others) = requests_of others ++ newest.request.questions ∷ []

-- the dispatcher keeps what its token has in hand
pub record Keeps (hand : Hand) (grabbed : List Grabbed) : Type 0 where
  pub clients : hand.clients ≡ clients_of grabbed
  pub requests : hand.requests ≡ requests_of grabbed

abbrev pub no_hand : Hand
no_hand = record { clients = []; requests = [] }

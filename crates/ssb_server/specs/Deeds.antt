-- What a turn adds to the record of what a dispatcher did.
use Rattle.std.specs.Prelude.{ℕ, List, [], ◌∷◌, ◌++◌, map}
use Rattle.history_core.specs.declared.event.Who.{Who}
use Rattle.history_core.specs.declared.event.EventReply.TheVariants.{Done, Asked as Asks}
use Rattle.history_core.specs.Events.{Event}
use Rattle.history_core.specs.Events as event
use Rattle.history_core.specs.Deeds.{Deed}
use Rattle.history.specs.declared.request.Grabbed.{Grabbed}
use Rattle.history_core.specs.declared.dispatcher.Given.{Given}
use Rattle.history_core.specs.declared.dispatcher.Outcome.{Outcome}
use Rattle.history_core.specs.declared.dispatcher.Outcome.TheVariants.{Served, GivenUp}
use Rattle.history.specs.Members.{number_of}
pub use Rattle.ssb_clients.specs.Deeds.{deed, handed_back}

-- a dispatcher grabbed these requests, whose newest comes first
abbrev pub grabbed : ℕ → List Grabbed → List Deed
grabbed number [] = []
grabbed number (newest ∷ others) =
    grabbed number others ++ deed (event.Grab number newest.client) (Asks newest.request.questions) ∷ []

-- a dispatcher took the writer, took the row store, and gave both back
abbrev pub fetched : Who → List Deed
fetched who = deed (event.TakeWriter (number_of who)) Done ∷ (handed_back who
    ++ deed (event.PutWriter (number_of who)) Done ∷ [])

-- a dispatcher answered a request, with this outcome
abbrev pub answer_of : ℕ → Outcome → Grabbed → Event
answer_of number (Served at) request = event.Answer number request.client
answer_of number (GivenUp cause) request = event.GiveUp number request.client cause

abbrev pub answered : ℕ → Outcome → List Grabbed → List Deed
answered number outcome requests = map (λ request. deed (answer_of number outcome request) Done) requests

-- the answers to these requests, all with this outcome
abbrev pub given_to_all : Outcome → List Grabbed → List Given
given_to_all outcome requests = map (λ (request : Grabbed). record {
  client = request.client;
  floor = request.request.floor;
  outcome = outcome;
}) requests

-- a dispatcher grabbed these requests, fetched, and answered each
abbrev pub turned : Who → Outcome → List Grabbed → List Deed
turned who outcome requests =
    grabbed (number_of who) requests ++ (fetched who ++ answered (number_of who) outcome requests)

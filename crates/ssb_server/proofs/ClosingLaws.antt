-- The tokens that a server is closed with, and what it leaves.
use Rattle.std.proofs.Common.{◌≡◌, ℕ, ◌≤◌, List, length, Option, Some, None, IfSome, subst, sym, arith}
use Rattle.std.specs.Prelude.{All}
use Rattle.std.proofs.lemmas.List.{length_push}
use Rattle.std.proofs.lemmas.List.Elements.{All-push}
use Rattle.row_store.specs.History.{CommitRecord}
use Rattle.ssb_base.specs.Base.{Tables}
use Rattle.history.specs.Tokens.{TableRecord, TokenRecord}
use Rattle.history.specs.Closing.{AreClients, AreDispatchers}
use Rattle.ssb_clients.specs.Tickets.{IsResting, IsLeft, IsQuiet, IsOf, AreAllThere, Leaves, with_reader}
use Rattle.ssb_server.proofs.SeatLaws.{all_clients, all_dispatchers}

pub left_with_reader : (tokens : List TokenRecord) (reader : Option TokenRecord) → All IsLeft tokens
    → IfSome reader IsLeft → All IsLeft (with_reader tokens reader)
left_with_reader tokens None left here = left
left_with_reader tokens (Some r) left here = All-push IsLeft tokens r left here

-- the dispatchers find room where they and the reader do
pub room_without_reader : (tokens : List TokenRecord) (reader : Option TokenRecord) (most : ℕ)
    → length (with_reader tokens reader) ≤ most → length tokens ≤ most
room_without_reader tokens None most few = few
room_without_reader tokens (Some r) most few = omega (arith, few, length_push tokens r)

-- the clients' tokens, in the list that the table gets
pub clients_for : (table server : TableRecord) (tokens room dispatchers : List TokenRecord) → table ≡ server
    → room ≡ tokens → AreAllThere server tokens dispatchers → All IsResting tokens → All (IsQuiet server) tokens
    → AreClients table room
clients_for table server tokens room dispatchers same is there rest quiet =
    subst (λ (h : TableRecord). AreClients h room) (sym same)
    (all_clients server tokens room is there.clients_are rest quiet)

pub dispatchers_for : (table server : TableRecord) (tokens room clients : List TokenRecord) → table ≡ server
    → room ≡ tokens → AreAllThere server clients tokens → All IsLeft tokens → All (IsOf server) tokens
    → AreDispatchers table room
dispatchers_for table server tokens room clients same is there left here =
    subst (λ (h : TableRecord). AreDispatchers h room) (sym same)
    (all_dispatchers server tokens room is there.dispatchers_are left here)

-- what the table leaves is told of the server, of the tokens that were handed in, and of what is handed out
pub left_by_all : (table server : TableRecord) (cs clients ds dispatchers : List TokenRecord) (base left : Tables)
    (log out : List CommitRecord) → table ≡ server → cs ≡ clients → ds ≡ dispatchers → left ≡ base → out ≡ log
    → Leaves table cs ds base log → Leaves server clients dispatchers left out
left_by_all table server cs clients ds dispatchers base left log out same clients_are tokens_are base_is log_is leaves = grind arith

-- The tokens that a table deals, and those that it is closed with.
use Rattle.std.proofs.Common.{◌≡◌, ℕ, ◌<◌, List, [], ◌++◌, Some, refl, ap, subst, sym, ◌∙◌, arith}
use Rattle.std.specs.Prelude.{All, slice_get}
use Rattle.std.specs.List.{range_with_len}
use Rattle.std.proofs.lemmas.List.Elements.{All-map}
use Rattle.std.proofs.lemmas.Option.{slice_get_within}
use Rattle.row_store.specs.History.{CommitRecord}
use Rattle.history_core.specs.declared.event.Who.{Who}
use Rattle.history_core.specs.declared.event.Who.TheVariants.{Client, Dispatcher}
use Rattle.history.specs.Words.{Owns}
use Rattle.history.specs.Tokens.{TableRecord, TokenRecord, IsFree, new_token, new_clients, new_dispatchers}
use Rattle.history.specs.Closing.{IsClientOf, IsDispatcherOf, AreNumbered, AreClients, AreDispatchers}
use Rattle.ssb_clients.specs.Tickets.{IsNewClient, IsResting, IsLeft, IsQuiet, IsOf}
use Rattle.ssb_server.specs.Opening.{IsNewDispatcher}

new_free : (table : TableRecord) (who : Who) → IsFree (new_token table who)
new_free table who = record { rows = refl; writer = refl; hand = refl }

pub clients_are_new : (table : TableRecord) → All IsNewClient (new_clients table)
clients_are_new table = All-map IsNewClient (λ number. new_token table (Client number)) (range_with_len 1 table.clients)
    (λ k d low. record {
      number = _;
      who_is = refl;
      free = new_free table _;
      quiet = refl;
    })

pub dispatchers_are_new : (table : TableRecord) → All (IsNewDispatcher table.base) (new_dispatchers table)
dispatchers_are_new table = All-map (IsNewDispatcher table.base) (λ number. new_token table (Dispatcher number))
    (range_with_len 1 table.dispatchers) (λ k d low. record {
      base_is = refl;
      number = _;
      who_is = refl;
      free = new_free table _;
    })

pub clients_left : (table : TableRecord) (tokens : List TokenRecord) → All IsResting tokens → All (IsQuiet table) tokens
    → All (IsClientOf table) tokens
clients_left table tokens rest quiet k d low =
    let r = rest k d low in
    let q = quiet k d low in
    record { table_is = q.table_is; client = (r.number, r.who_is); rows = r.rows; quiet = q.quiet }

pub dispatchers_left : (table : TableRecord) (tokens : List TokenRecord) → All IsLeft tokens → All (IsOf table) tokens
    → All (IsDispatcherOf table) tokens
dispatchers_left table tokens left here k d low =
    let r = left k d low in
    record { table_is = here k d low; dispatcher = (r.number, r.who_is); free = r.free }

pub all_clients : (table : TableRecord) (tokens room : List TokenRecord) → room ≡ tokens → AreNumbered table.clients tokens
    → All IsResting tokens → All (IsQuiet table) tokens → AreClients table room
all_clients table tokens room is numbered rest quiet = subst (AreClients table) (sym is)
    record { numbered = numbered; left = clients_left table tokens rest quiet }

pub all_dispatchers : (table : TableRecord) (tokens room : List TokenRecord) → room ≡ tokens → AreNumbered table.dispatchers tokens
    → All IsLeft tokens → All (IsOf table) tokens → AreDispatchers table room
all_dispatchers table tokens room is numbered left here =
    subst (AreDispatchers table) (sym is) record { numbered = numbered; left = dispatchers_left table tokens left here }

-- the tokens in room that was empty
pub gathered : (tokens first room : List TokenRecord) → room ≡ first ++ tokens → first ≡ [] → room ≡ tokens
gathered tokens first room whole none = whole ∙ ap (λ xs. xs ++ tokens) none

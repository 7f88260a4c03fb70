-- The world that the fields of a new machine show.
use Rattle.std.proofs.Common.{◌≡◌, ℕ, zero, suc, ◌+◌, ◌≤◌, List, [], ◌∷◌, length}
use Rattle.std.proofs.Common.{Some, None, refl, ◌∙◌, arith, zero-le}
use Rattle.std.specs.Prelude.{map, slice_get}
use Rattle.ssb_base.specs.Base.{Tables}
use Rattle.history_core.specs.declared.client.WorldClient.{WorldClient}
use Rattle.history_core.specs.declared.dispatcher.WorldDispatcher.{WorldDispatcher}
use Rattle.history_core.specs.declared.world.World.TheInside.{Inside}
use Rattle.history_core.specs.Numbered.{copies}
use Rattle.history_core.specs.World.{ClientState, DispatcherState, empty, opening_world}
use Rattle.history_core.specs.Fresh.{OpeningClients, OpeningDispatchers}
use Rattle.history_core.specs.View.{world_in, ClientsFit, DispatchersFit, IsWorld}
use Rattle.history_core.proofs.HistoryLaws.{some_ne_none}

all_same : {A B : Type 0} (f : A → B) (l : List A) (y : B)
    → ((place : ℕ) (x : A) → slice_get l place ≡ Some x → f x ≡ y) → map f l ≡ copies (length l) y
all_same f [] y same = refl
all_same f (x ∷ xs) y same = λ i. same zero x refl i ∷ all_same f xs y (λ place z at. same (suc place) z at) i

new_clients : (commits count : ℕ) (clients : List WorldClient) → OpeningClients count clients
    → ClientsFit commits clients
new_clients commits count clients new = grind (arith, some_ne_none)

idle_dispatchers : (commits count : ℕ) (dispatchers : List WorldDispatcher) → OpeningDispatchers count dispatchers
    → DispatchersFit commits dispatchers
idle_dispatchers commits count dispatchers idle = grind (arith, some_ne_none, zero-le)

pub opening_kept : (w : Inside) (clients dispatchers : ℕ) → w.base.value ≡ w.store.base
    → w.commits.items ≡ w.store.log → OpeningClients clients w.clients.items → OpeningDispatchers dispatchers w.dispatchers.items → IsWorld w
opening_kept w clients dispatchers base commits new idle = grind (arith, new_clients, idle_dispatchers)

abbrev newcomer : ClientState
newcomer = record { seen = []; mine = []; mailbox = empty }

abbrev idler : DispatcherState
idler = record { seen = []; mark = None; version = None; given = [] }

pub opening_shown : (w : Inside) (base : Tables) (clients dispatchers : ℕ) → w.rows ≡ None → w.writer ≡ None
    → w.store ≡ record { base = base; log = [] } → OpeningClients clients w.clients.items
    → OpeningDispatchers dispatchers w.dispatchers.items → world_in w ≡ opening_world base clients dispatchers
opening_shown w base clients dispatchers rows writer is new idle = grind (arith, all_same, newcomer, idler)

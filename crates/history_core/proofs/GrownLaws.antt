-- The world that the fields show when the row store has one commit more.
use Rattle.std.proofs.Common.{◌≡◌, ◌≢◌, ℕ, zero, suc, ◌+◌, ◌≤◌, List, [], ◌∷◌, ◌++◌, length, Vec, Global}
use Rattle.std.proofs.Common.{Option, Some, None, refl, ap, ◌∙◌, arith, length-append}
use Rattle.std.proofs.lemmas.List.{take-append-le}
use Rattle.std.specs.Prelude.{map, slice_get}
use Rattle.ssb_schema.specs.declared.refresh.Action.{Action}
use Rattle.row_store.specs.History.{CommitRecord, Warehouse, with_commit}
use Rattle.row_store.specs.Refusals.{refusal_of}
use Rattle.history_core.specs.declared.client.WorldClient.{WorldClient}
use Rattle.history_core.specs.declared.dispatcher.WorldDispatcher.{WorldDispatcher}
use Rattle.history_core.specs.declared.event.EventReply.TheVariants.{Committed}
use Rattle.history_core.specs.declared.world.World.TheInside.{Inside}
use Rattle.history_core.specs.Numbered.{revised, numbered, renewed}
use Rattle.history_core.specs.World.{commit_by}
use Rattle.history_core.specs.View.{client_in, dispatcher_in, world_in, IsWithin, ClientsFit, DispatchersFit, IsWorld}
use Rattle.history_core.specs.Applying.{applied}
use Rattle.history_core.proofs.HistoryLaws.{own_push, others_push}

module _ {A B : Type 0} (now before : A → B) where
  -- two views that agree on each element
  pub map_agree : (l : List A) → ((place : ℕ) (x : A) → slice_get l place ≡ Some x → now x ≡ before x)
      → map now l ≡ map before l
  map_agree [] same = refl
  map_agree (x ∷ xs) same = (λ i. same zero x refl i ∷ map_agree xs (λ place y at. same (suc place) y at) i)

  -- and two that differ by f at one place
  pub map_revised : (l : List A) (place : ℕ) (f : B → B)
      → ((x : A) → slice_get l place ≡ Some x → now x ≡ f (before x))
      → ((other : ℕ) (x : A) → other ≢ place → slice_get l other ≡ Some x → now x ≡ before x)
      → map now l ≡ revised (map before l) place f
  map_revised [] place f here others = refl
  map_revised (x ∷ xs) zero f here others =
      (λ i. here x refl i ∷ map_agree xs (λ other y at. others (suc other) y (λ e. omega arith) at) i)
  map_revised (x ∷ xs) (suc place) f here others =
      (λ i. others zero x (λ e. omega arith) refl i ∷ map_revised xs place f here
      (λ other y apart at. others (suc other) y (λ e. apart (omega arith)) at) i)

  pub map_renewed : (l : List A) (number : ℕ) (f : B → B)
      → ((x : A) → numbered l number ≡ Some x → now x ≡ f (before x))
      → ((other : ℕ) (x : A) → other ≢ number → numbered l other ≡ Some x → now x ≡ before x)
      → map now l ≡ renewed (map before l) number f
  map_renewed l zero f here others = map_agree l (λ place x at. others (suc place) x (λ e. omega arith) at)
  map_renewed l (suc place) f here others =
      map_revised l place f here (λ other x apart at. others (suc other) x (λ e. apart (omega arith)) at)

within_more : (o : Option ℕ) (n m : ℕ) → n ≤ m → IsWithin o n → IsWithin o m
within_more None n m h w = tt
within_more (Some mark) n m h w = omega arith

module _ (history : List CommitRecord) (commit : CommitRecord) where
  now : List CommitRecord
  now = history ++ commit ∷ []

  longer : length history ≤ length (history ++ commit ∷ [])
  longer = let l = length-append history (commit ∷ []) in omega arith

  pub clients_more : (clients : List WorldClient) → ClientsFit (length history) clients
      → ClientsFit (length (history ++ commit ∷ [])) clients
  clients_more clients are = grind (arith, longer)

  pub dispatchers_more : (dispatchers : List WorldDispatcher) → DispatchersFit (length history) dispatchers
      → DispatchersFit (length (history ++ commit ∷ [])) dispatchers
  dispatchers_more dispatchers are = record {
    own = λ number d at. let h = are.own number d at in let seen = h.0 in
        let more = longer in (omega arith, within_more d.mark _ _ more h.1, within_more d.version _ _ more h.2);
  }

  pub dispatchers_grown : (dispatchers : List WorldDispatcher) → DispatchersFit (length history) dispatchers
      → map (dispatcher_in (history ++ commit ∷ [])) dispatchers ≡ map (dispatcher_in history) dispatchers
  dispatchers_grown dispatchers are =
      map_agree (dispatcher_in (history ++ commit ∷ [])) (dispatcher_in history) dispatchers
      (λ place d at. let h =
      are.own (suc place) d at in
      ap (λ l. record (dispatcher_in history d) { seen = l }) (take-append-le d.seen history (commit ∷ []) h.0))

  pub clients_grown : (clients : List WorldClient) (number : ℕ) → commit.client ≡ number
      → ClientsFit (length history) clients
      → map (client_in (history ++ commit ∷ [])) clients ≡ renewed (map (client_in history) clients) number
      (λ c. record c { mine = c.mine ++ commit ∷ [] })
  clients_grown clients number made are = grind (arith, map_renewed, take-append-le, own_push, others_push)

pub grown_kept : (w : Inside) (store : Warehouse) (commits : Vec CommitRecord Global) (commit : CommitRecord)
    → store ≡ with_commit w.store commit → commits.items ≡ w.commits.items ++ commit ∷ [] → IsWorld w
    → IsWorld record w { store = store; commits = commits }
grown_kept w store commits commit is pushed k = grind (arith, clients_more, dispatchers_more)

pub applied_grown : (w : Inside) (store : Warehouse) (client : ℕ) (actions : List Action) (number : ℕ) → IsWorld w
    → refusal_of w.store.base w.store.log actions ≡ None → store ≡ with_commit w.store (commit_by client actions)
    → number ≡ length store.log
    → applied (world_in w) client actions ≡ (world_in record w { store = store }, Committed number)
applied_grown w store client actions number k accepted is count = grind (arith, length-append, clients_grown, dispatchers_grown)

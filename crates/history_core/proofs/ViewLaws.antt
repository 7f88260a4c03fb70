-- The world that the fields show after one client or dispatcher changed.
use Rattle.std.proofs.Common.{◌≡◌, ℕ, ◌≤◌, List, [], length, take, Option, Some, None, refl, ap, sym, subst, ◌∙◌}
use Rattle.std.proofs.lemmas.List.{append-nil, length-map}
use Rattle.std.proofs.Math.Seq.{take-append_seam}
use Rattle.std.specs.Prelude.{map, slice_set, slice_index_or, IfSome}
use Rattle.std.specs.Option.{option_map}
use Rattle.row_store.specs.History.{CommitRecord}
use Rattle.history_core.specs.declared.client.WorldClient.{WorldClient}
use Rattle.history_core.specs.declared.dispatcher.WorldDispatcher.{WorldDispatcher}
use Rattle.history_core.specs.declared.world.World.TheInside.{Inside}
use Rattle.history_core.specs.Numbered.{numbered, place_within}
use Rattle.history_core.specs.World.{World, ClientState, DispatcherState, mailbox_of, with_client, with_dispatcher}
use Rattle.history_core.specs.View.{client_in, dispatcher_in, world_in, IsWithin, ClientsFit, DispatchersFit, IsWorld}
use Rattle.history_core.proofs.HistoryLaws.{each_renewed}
use Rattle.history_core.proofs.RenewalLaws.{renewed_write, renewed_none, renewed_map, numbered_map}

-- the first commits of a history, as many as there are
pub take_all : (n : ℕ) (history : List CommitRecord) → n ≡ length history → take n history ≡ history
take_all n history is =
    ap (λ m. take m history) is
    ∙ (ap (take (length history)) (sym (append-nil history)) ∙ take-append_seam history [])

abbrev HasClient : ℕ → ℕ → WorldClient → Type 0
HasClient commits number client = (client.number ≡ number) × (client.seen ≤ commits)

abbrev HasDispatcher : ℕ → WorldDispatcher → Type 0
HasDispatcher commits dispatcher =
    (dispatcher.seen ≤ commits) × IsWithin dispatcher.mark commits × IsWithin dispatcher.version commits

-- one client or dispatcher, which has this number among so many and lies at this place, is another now
module _ (w : Inside) (k : IsWorld w) (number place count : ℕ) (is : Some place ≡ place_within number count) where
  pub clients_fit : (g : WorldClient → WorldClient) (x : WorldClient) → x ≡ slice_index_or w.clients.items place x
      → count ≡ length w.clients.items
      → ((n : ℕ) (c : WorldClient) → HasClient (length w.store.log) n c → HasClient (length w.store.log) n (g c))
      → ClientsFit (length w.store.log) (slice_set w.clients.items place (g x))
  clients_fit g x there len here =
      subst (ClientsFit (length w.store.log)) (sym (renewed_write w.clients.items number place count g x there len is))
      record {
        own =
            each_renewed (HasClient (length w.store.log)) (HasClient (length w.store.log)) w.clients.items number g
            k.clients.own (λ c at h. here number c h) (λ n c apart at h. h);
      }

  pub dispatchers_fit : (g : WorldDispatcher → WorldDispatcher) (x : WorldDispatcher)
      → x ≡ slice_index_or w.dispatchers.items place x → count ≡ length w.dispatchers.items
      → ((d : WorldDispatcher) → HasDispatcher (length w.store.log) d → HasDispatcher (length w.store.log) (g d))
      → DispatchersFit (length w.store.log) (slice_set w.dispatchers.items place (g x))
  dispatchers_fit g x there len here =
      subst (DispatchersFit (length w.store.log))
      (sym (renewed_write w.dispatchers.items number place count g x there len is))
      record {
        own =
            each_renewed (λ n. HasDispatcher (length w.store.log)) (λ n. HasDispatcher (length w.store.log))
            w.dispatchers.items number g k.dispatchers.own (λ d at h. here d h) (λ n d apart at h. h);
      }

module _ (w : Inside) (now : World) (view : world_in w ≡ now) (number : ℕ) where
  pub client_renewed : (place count : ℕ) (g : WorldClient → WorldClient) (f : World → ClientState → ClientState)
      (x : WorldClient)
      → ((c : WorldClient) → client_in w.store.log (g c) ≡ f (world_in w) (client_in w.store.log c))
      → x ≡ slice_index_or w.clients.items place x → count ≡ length w.clients.items
      → Some place ≡ place_within number count
      → record (world_in w) { clients = map (client_in w.store.log) (slice_set w.clients.items place (g x)) }
      ≡ with_client now number (f now)
  client_renewed place count g f x same there len is =
      ap (λ l. record (world_in w) { clients = l })
      (ap (map (client_in w.store.log)) (renewed_write w.clients.items number place count g x there len is)
      ∙ renewed_map (client_in w.store.log) w.clients.items number g (f (world_in w)) same)
      ∙ ap (λ (v : World). with_client v number (f v)) view

  pub dispatcher_renewed : (place count : ℕ) (g : WorldDispatcher → WorldDispatcher)
      (f : World → DispatcherState → DispatcherState) (x : WorldDispatcher)
      → ((d : WorldDispatcher) → dispatcher_in w.store.log (g d) ≡ f (world_in w) (dispatcher_in w.store.log d))
      → x ≡ slice_index_or w.dispatchers.items place x → count ≡ length w.dispatchers.items
      → Some place ≡ place_within number count
      → record (world_in w) {
        dispatchers = map (dispatcher_in w.store.log) (slice_set w.dispatchers.items place (g x));
      } ≡ with_dispatcher now number (f now)
  dispatcher_renewed place count g f x same there len is =
      ap (λ l. record (world_in w) { dispatchers = l })
      (ap (map (dispatcher_in w.store.log)) (renewed_write w.dispatchers.items number place count g x there len is)
      ∙ renewed_map (dispatcher_in w.store.log) w.dispatchers.items number g (f (world_in w)) same)
      ∙ ap (λ (v : World). with_dispatcher v number (f v)) view

  -- nobody has the number
  pub no_client : (count : ℕ) (f : ClientState → ClientState) → count ≡ length w.clients.items
      → None ≡ place_within number count → now ≡ with_client now number f
  no_client count f len is =
      sym view
      ∙ (ap (λ l. record (world_in w) { clients = l })
      (renewed_none (map (client_in w.store.log) w.clients.items) number f
      (is ∙ ap (place_within number) (len ∙ sym (length-map w.clients.items (client_in w.store.log)))))
      ∙ ap (λ (v : World). with_client v number f) view)

  pub no_dispatcher : (count : ℕ) (f : DispatcherState → DispatcherState) → count ≡ length w.dispatchers.items
      → None ≡ place_within number count → now ≡ with_dispatcher now number f
  no_dispatcher count f len is =
      sym view
      ∙ (ap (λ l. record (world_in w) { dispatchers = l })
      (renewed_none (map (dispatcher_in w.store.log) w.dispatchers.items) number f
      (is ∙ ap (place_within number) (len ∙ sym (length-map w.dispatchers.items (dispatcher_in w.store.log)))))
      ∙ ap (λ (v : World). with_dispatcher v number f) view)

  -- the mailbox of a client, shown
  pub mailbox_shown : mailbox_of (numbered now.clients number)
      ≡ option_map (λ (c : WorldClient). c.mailbox) (numbered w.clients.items number)
  mailbox_shown =
      ap (λ (v : World). mailbox_of (numbered v.clients number)) (sym view)
      ∙ (ap mailbox_of (numbered_map (client_in w.store.log) w.clients.items number)
      ∙ go (numbered w.clients.items number))
    where
      go : (o : Option WorldClient)
          → mailbox_of (option_map (client_in w.store.log) o) ≡ option_map (λ (c : WorldClient). c.mailbox) o
      go None = refl
      go (Some c) = refl

pub within_some : (o : Option ℕ) (n : ℕ) → IsWithin o n → IfSome o (λ at. at ≤ n)
within_some None n h = tt
within_some (Some at) n h = h

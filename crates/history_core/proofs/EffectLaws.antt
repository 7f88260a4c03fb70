-- The effects of events, by what the machine looks for.
use Rattle.std.proofs.Common.{◌≡◌, ℕ, ◌+◌, Bool, true, List, [], ◌∷◌, ◌++◌}
use Rattle.std.proofs.Common.{length, Option, Some, None, refl, ap, sym, ◌∙◌}
use Rattle.ssb_schema.specs.declared.refresh.Action.{Action}
use Rattle.row_store.specs.declared.refusal.Refusal.{Refusal}
use Rattle.history_core.specs.declared.event.Who.{Who}
use Rattle.history_core.specs.declared.event.Who.TheVariants.{Client, Dispatcher}
use Rattle.history_core.specs.declared.event.EventReply.TheVariants.{NotEnabled, Done, Committed, Rows, Unserved}
use Rattle.history_core.specs.Events.{Questions}
use Rattle.history_core.specs.Numbered.{numbered}
use Rattle.history_core.specs.World.{World, ClientState, Mailbox, empty, asked, in_hand, answered}
use Rattle.history_core.specs.World.{unserved, mailbox_of, into_mailbox, with_client, with_dispatcher}
use Rattle.history_core.specs.World.{commit_by, seen_by, posting, collecting, committing, putting_rows}
use Rattle.history_core.specs.Mailboxes.{floor_at, floor_of, left_in, collected_of}
use Rattle.history_core.specs.Applying.{applying}
use Rattle.history_core.proofs.RenewalLaws.{renewed_agree, renewed_missing, renewed_same, renewed_twice}

module _ (w : World) where
  pub posts : (client : ℕ) (questions : Questions) (floor : ℕ) → Some floor ≡ floor_of (numbered w.clients client)
      → posting w client questions (mailbox_of (numbered w.clients client)) ≡
      (into_mailbox w client (asked questions floor), Done)
  posts client questions floor is = go (numbered w.clients client) refl is
    where
      box : (c : ClientState) → numbered w.clients client ≡ Some c → (m : Mailbox)
          → Some floor ≡ floor_at (length c.seen) m
          → posting w client questions (Some m) ≡ (into_mailbox w client (asked questions floor), Done)
      box c at empty e = let same : length c.seen ≡ floor = cc e in
          ap (λ l. (record w { clients = l }, Done))
          (renewed_agree w.clients client (λ x. record x { mailbox = asked questions (length x.seen) })
          (λ x. record x { mailbox = asked questions floor }) c at
          (ap (λ n. record c { mailbox = asked questions n }) same))
      box c at (asked q f) e = absurd (cc e)
      box c at (in_hand d q f) e = absurd (cc e)
      box c at (answered q a r) e = absurd (cc e)
      box c at (unserved q u) e = absurd (cc e)

      go : (o : Option ClientState) → numbered w.clients client ≡ o → Some floor ≡ floor_of o
          → posting w client questions (mailbox_of o) ≡ (into_mailbox w client (asked questions floor), Done)
      go None at e = absurd (cc e)
      go (Some c) at e = box c at c.mailbox e

  pub collects : (client : ℕ)
      → collecting w client (mailbox_of (numbered w.clients client)) ≡ (
        with_client w client (λ c. record c { mailbox = left_in c.mailbox }),
        collected_of (mailbox_of (numbered w.clients client)),
      )
  collects client = go (numbered w.clients client) refl
    where
      after : World
      after = with_client w client (λ c. record c { mailbox = left_in c.mailbox })

      same : (c : ClientState) → numbered w.clients client ≡ Some c → left_in c.mailbox ≡ c.mailbox
          → w ≡ with_client w client (λ c. record c { mailbox = left_in c.mailbox })
      same c at e =
          ap (λ l. record w { clients = l })
          (sym
          (renewed_same w.clients client (λ c. record c { mailbox = left_in c.mailbox }) c at
          (ap (λ m. record c { mailbox = m }) e)))

      emptied : (c : ClientState) → numbered w.clients client ≡ Some c → left_in c.mailbox ≡ empty
          → into_mailbox w client empty ≡ with_client w client (λ c. record c { mailbox = left_in c.mailbox })
      emptied c at e =
          ap (λ l. record w { clients = l })
          (renewed_agree w.clients client (λ c. record c { mailbox = empty })
          (λ c. record c { mailbox = left_in c.mailbox }) c at (ap (λ m. record c { mailbox = m }) (sym e)))

      box : (c : ClientState) → numbered w.clients client ≡ Some c → (m : Mailbox) → c.mailbox ≡ m
          → collecting w client (Some m) ≡
          (with_client w client (λ c. record c { mailbox = left_in c.mailbox }), collected_of (Some m))
      box c at empty e = ap (λ v. (v, NotEnabled)) (same c at (ap left_in e ∙ sym e))
      box c at (asked q f) e = ap (λ v. (v, NotEnabled)) (same c at (ap left_in e ∙ sym e))
      box c at (in_hand d q f) e = ap (λ v. (v, NotEnabled)) (same c at (ap left_in e ∙ sym e))
      box c at (answered q a r) e = ap (λ v. (v, Rows q a r)) (emptied c at (ap left_in e))
      box c at (unserved q u) e = ap (λ v. (v, Unserved q u)) (emptied c at (ap left_in e))

      go : (o : Option ClientState) → numbered w.clients client ≡ o
          → collecting w client (mailbox_of o) ≡
          (with_client w client (λ c. record c { mailbox = left_in c.mailbox }), collected_of (mailbox_of o))
      go None at =
          ap (λ l. (record w { clients = l }, NotEnabled))
          (sym (renewed_missing w.clients client (λ c. record c { mailbox = left_in c.mailbox }) at))
      go (Some c) at = box c at c.mailbox refl

  -- the row store comes home, and the client has seen what became of its refresh
  pub commits : (number : ℕ) (actions : List Action) (found : Option Refusal)
      → committing w number actions found ≡ (
        seen_by record (applying w number actions found).0 { rows = None } (Client number),
        (applying w number actions found).1,
      )
  commits number actions None = let commit = commit_by number actions in let now = w.history ++ commit ∷ [] in
      ap (λ l. (record w { history = now; rows = None; clients = l }, Committed (length w.history + 1)))
      (sym
      (renewed_twice w.clients number (λ c. record c { mine = c.mine ++ commit ∷ [] })
      (λ c. record c { seen = now })))
  commits number actions (Some refusal) = refl

  -- a dispatcher gives the row store back
  pub returned : (who : Who) (number : ℕ) (known holds : Bool) → who ≡ Dispatcher number → known ≡ true → holds ≡ true
      → putting_rows w who None known holds ≡ (
        with_dispatcher record w { rows = None } number
            (λ d. record d { seen = w.history; mark = Some (length w.history) }),
        Done,
      )
  returned who number known holds is k h i = putting_rows w (is i) None (k i) (h i)

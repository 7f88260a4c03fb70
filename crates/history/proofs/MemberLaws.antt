-- The names of members by their places, and what every world keeps of a member.
use Rattle.std.proofs.Common.{◌≡◌, ◌⊎◌, ℕ, ◌+◌, ◌-◌, ◌<◌, ◌≤◌, true, false, List, [], ◌∷◌, ◌++◌, length}
use Rattle.std.proofs.Common.{Some, refl, ap, subst, ◌∙◌, inl, inr, arith}
use Rattle.std.proofs.lemmas.Bool.Decides.{nat_tests}
use Rattle.std.specs.Prelude.{nat_lt}
use Rattle.ssb_base.specs.Base.{Tables}
use Rattle.row_store.specs.History.{CommitRecord, IsPrefix}
use Rattle.history_core.specs.declared.event.Who.{Who}
use Rattle.history_core.specs.declared.event.Who.TheVariants.{Client, Dispatcher}
use Rattle.history_core.specs.Numbered.{numbered, is_there}
use Rattle.history_core.specs.Events.{Questions}
use Rattle.history_core.specs.declared.mailbox.Mailbox.{Mailbox}
use Rattle.history_core.specs.declared.mailbox.Mailbox.TheVariants.{InHand as in_hand}
use Rattle.history_core.specs.World.{World}
use Rattle.history_core.specs.Kept.{WorldKept}
use Rattle.history_core.specs.Parts.{Part, client_part, dispatcher_part, part_of, mailbox_at}
use Rattle.history_core.proofs.HistoryLaws.{own_push, known_range}
use Rattle.history_core.proofs.KeepingLaws.{mail_kept}
use Rattle.history_core.proofs.PartLaws.{found, found_box}
use Rattle.history.specs.Words.{Owns}
use Rattle.history.specs.Members.{who_at, number_of}

pub who_client : (clients place : ℕ) → place < clients → who_at clients place ≡ Client (place + 1)
who_client clients place h = let low : nat_lt place clients ≡ true = grind (arith, nat_tests) in rw low refl

pub who_dispatcher : (clients place : ℕ) → clients ≤ place → who_at clients place ≡ Dispatcher ((place - clients) + 1)
who_dispatcher clients place h = let far : nat_lt place clients ≡ false = grind (arith, nat_tests) in rw far refl

pub low_or_behind : (place clients : ℕ) → (place < clients) ⊎ (clients ≤ place)
low_or_behind place clients = grind (arith, nat_tests)

-- a client's place is one less than its number
pub who_back : (clients place client : ℕ) → who_at clients place ≡ Client client → (place < clients)
    × (client ≡ place + 1)
who_back clients place client e = grind (arith, nat_tests)

-- a dispatcher stands behind the clients
pub who_behind : (clients place number : ℕ) → who_at clients place ≡ Dispatcher number → clients ≤ place
who_behind clients place number e = grind (arith, nat_tests)

-- the one at a client's place is that client, at another a dispatcher
pub client_here : (clients place : ℕ) (who : Who) → place < clients → who ≡ who_at clients place
    → who ≡ Client (place + 1)
client_here clients place who low is = is ∙ who_client clients place low

pub dispatcher_here : (clients place : ℕ) (who : Who) → clients ≤ place → who ≡ who_at clients place
    → who ≡ Dispatcher (number_of who)
dispatcher_here clients place who far is = grind (arith, who_dispatcher)

-- two places of one name are one
pub who_same : (clients a b : ℕ) → who_at clients a ≡ who_at clients b → a ≡ b
who_same clients a b e = grind (arith, nat_tests)

pub owns_more : (who : Who) (commit : CommitRecord) (mine history : List CommitRecord) → who ≡ Client commit.client
    → Owns who mine history → Owns who (mine ++ commit ∷ []) (history ++ commit ∷ [])
owns_more (Client n) commit mine history e owns = grind (arith, own_push)
owns_more (Dispatcher n) commit mine history e owns = grind arith

-- what every world keeps of a client or a dispatcher
pub record PartKept (history : List CommitRecord) (who : Who) (p : Part) : Type 0 where
  pub begins : IsPrefix p.seen history
  pub owns : Owns who p.mine history
  pub marked : (mark : ℕ) → p.mark ≡ Some mark → mark ≤ length p.seen
  pub versioned : (version : ℕ) → p.version ≡ Some version → version ≤ length p.seen

pub part_kept : (base : Tables) (clients : ℕ) (w : World) → WorldKept base clients w → (who : Who) (p : Part)
    → part_of w who ≡ Some p → PartKept w.history who p
part_kept base clients w k (Client n) p at = let c = found client_part (numbered w.clients n) p at in
    subst (PartKept w.history (Client n)) c.2 record {
      begins = (k.client n c.0 c.1).seen;
      owns = k.own.own n c.0 c.1;
      marked = λ mark e. absurd (cc e);
      versioned = λ version e. absurd (cc e);
    }
part_kept base clients w k (Dispatcher n) p at = let d = found dispatcher_part (numbered w.dispatchers n) p at in
    let was = k.dispatcher n d.0 d.1 in subst (PartKept w.history (Dispatcher n)) d.2 record {
      begins = was.seen;
      owns = refl;
      marked = λ mark e. was.marks_seen mark (inl e);
      versioned = λ version e. was.marks_seen version (inr e);
    }

-- a version is no less than the floor of a request in hand
pub floor_kept : (base : Tables) (clients : ℕ) (w : World) → WorldKept base clients w → (number n : ℕ)
    (questions : Questions) (floor version : ℕ) (p : Part) → mailbox_at w n ≡ Some (in_hand number questions floor)
    → part_of w (Dispatcher number) ≡ Some p → p.version ≡ Some version → floor ≤ version
floor_kept base clients w k number n questions floor version p hand at is = let d =
    found dispatcher_part (numbered w.dispatchers number) p at in
    (mail_kept base clients w k n (numbered w.clients n) (in_hand number questions floor) refl hand).1 version
    (d.0, d.1, inr (ap (λ (q : Part). q.version) d.2 ∙ is))

pub box_within : (base : Tables) (clients : ℕ) (w : World) → WorldKept base clients w → (place : ℕ) (box : Mailbox)
    → mailbox_at w (place + 1) ≡ Some box → place < clients
box_within base clients w k place box at = let c = found_box (numbered w.clients (place + 1)) box at in
    let range = known_range w.clients (place + 1) (ap is_there c.1) in let high = range.1 in let count = k.own.count in
    omega arith

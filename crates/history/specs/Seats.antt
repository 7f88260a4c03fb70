-- What the seats of tokens do.
use Rattle.std.specs.Prelude.{◌≡◌, ℕ, zero, suc, ◌+◌, ◌<◌, ◌≤◌, false, List, [], ◌∷◌, ◌++◌, length, Some, None}
use mathlib.Core.Option.{some}
use lib.ListN.{get_elem?}
use Rattle.atomic_table.specs.Table.{rest, turned}
use Rattle.atomic_table.specs.Seated.{TableId}
use Rattle.atomic_table.specs.declared.shared.Seat.{Seat}
use Rattle.ssb_base.specs.Base.{Tables}
use Rattle.history_core.specs.declared.response.Response.{Response}
use Rattle.row_store.specs.History.{CommitRecord, Warehouse, IsPrefix}
use Rattle.row_store.specs.Legal.{IsLegal}
use Rattle.history.specs.declared.view.Member.{Member}
use Rattle.history.specs.declared.view.Terms.{Terms}
use Rattle.history.specs.declared.request.PostedRequest.{PostedRequest}
use Rattle.history.specs.declared.view.Role.TheVariants.{Dealer, Token}
use Rattle.history.specs.declared.view.View.{View}
use Rattle.history_core.specs.OwnCommits.{IsOfClients}
use Rattle.history.specs.Words.{IsAccepted, store, Owns, IsRight, IsRightAt, IsFresh, given_to}
use Rattle.history_core.specs.declared.mailbox.Mailbox.{Mailbox}
use Rattle.history_core.specs.declared.mailbox.Mailbox.TheVariants.{Empty as empty}
use Rattle.history_core.specs.World.{World, opening_world}
use Rattle.history_core.specs.TrueRun.{IsTrueRun}
use Rattle.history_core.specs.Deeds.{Deed, events_of, replies_of, done_by, HasDone}
use Rattle.history_core.specs.Parts.{part_of, mailbox_at}
use Rattle.history.specs.Members.{who_at, part}
use Rattle.history.specs.Rule.{Slot}
use Rattle.history.specs.Plays.{Learns, with_rows, looked, request_at, served, collected, with_writer}

abbrev pub Place : Type 0 → Type 0
Place W = Seat (Slot W) View

-- the first slot goes behind the others, so many times
abbrev pub turns : {A : Type 0} → ℕ → List (ℕ × A) → List (ℕ × A)
turns zero carried = carried
turns (suc more) carried = turns more (turned carried)

-- the table has this word
abbrev pub Has : TableId → ℕ → Type 0
Has z word = word < z.words

module _ {W : Type 0} where
  abbrev pub IsToken : Place W → Type 0
  IsToken seat = (place : ℕ) × (seat.me.0.role ≡ Token place)

  -- the seat of a client's token, or of a dispatcher's
  abbrev pub IsClientAt : Place W → ℕ → Type 0
  IsClientAt seat place = (seat.me.0.role ≡ Token place) × (place < seat.me.0.terms.clients)

  abbrev pub IsDispatcherAt : Place W → ℕ → Type 0
  IsDispatcherAt seat place = (seat.me.0.role ≡ Token place) × (seat.me.0.terms.clients ≤ place)

  -- the same seat, with this view and these slots in hand
  abbrev pub Becomes : Place W → View → List (ℕ × Slot W) → Place W → Type 0
  Becomes before v carried after =
      (after.table_id ≡ before.table_id) × (after.id ≡ before.id) × (after.me ≡ (v, carried))

  -- the slot is in the seat's hands, before the others, and its value is out
  abbrev pub Carries : ℕ → Place W → Type 0
  Carries slot seat = seat.me.1 ≡ (slot, None) ∷ rest seat.me.1

  -- the row store was taken, with a history that the seat has then seen
  abbrev pub Takes : Place W → Warehouse → Place W → Type 0
  Takes before rows after = (history : List CommitRecord) × (rows ≡ store before.me.0.terms.base history)
      × Becomes before (with_rows before.me.0 history) ((0, None) ∷ before.me.1) after × Learns before.me.0 history

  abbrev pub LooksAt : Place W → ℕ → Place W → Type 0
  LooksAt before found after = (history : List CommitRecord) × (found ≡ length history)
      × Becomes before (looked before.me.0 history) before.me.1 after × Learns before.me.0 history

  -- the log is what the seat has seen, and one accepted commit of its client
  abbrev pub Adds : Place W → List CommitRecord → Type 0
  Adds seat log = (commit : CommitRecord) × (place : ℕ) × (seat.me.0.role ≡ Token place)
      × (place < seat.me.0.terms.clients) × (commit.client ≡ place + 1)
      × IsAccepted seat.me.0.terms.base seat.me.0.member.seen commit × (log ≡ seat.me.0.member.seen ++ commit ∷ [])

  -- the answer is to a request in hand, whose slot is the seat's first; its rows are right at the version
  abbrev pub MayServe : Place W → ℕ → Response → Type 0
  MayServe seat client reply = (asked : PostedRequest) × (request_at client seat.me.0.grabbed ≡ Some asked)
      × (seat.me.1 ≡ (2 + client, None) ∷ rest seat.me.1)
      × IsRightAt seat.me.0.terms.base seat.me.0.member.seen seat.me.0.member.version asked reply

  abbrev pub Serves : Place W → ℕ → Response → Place W → Type 0
  Serves before client reply after = Becomes before (served before.me.0 client reply) (rest before.me.1) after
      × ((asked : PostedRequest) → request_at client before.me.0.grabbed ≡ Some asked
      → IsFresh (given_to (client + 1) asked reply))

  -- the answer is to what the client asked, and right in a history that then lies beside what it has seen
  abbrev pub Collects : Place W → ℕ → Response → Place W → Type 0
  Collects before place reply after = (history : List CommitRecord) × (request : PostedRequest)
      × (before.me.0.asked ≡ Some request) × IsRight before.me.0.terms.base history request reply
      × Becomes before (collected before.me.0 history reply) ((2 + place, None) ∷ before.me.1) after

  -- the seat deals the tokens of this table, from this place on
  abbrev pub IsDealer : Place W → Terms → ℕ → Type 0
  IsDealer seat terms next = (seat.me.0.role ≡ Dealer next) × (seat.me.0.terms ≡ terms)

module _ {W : Type 0} (base_of : W → Tables) (taken : W → List CommitRecord) where
  -- a writer over the table's base was taken, and what it stands for lies beside what the seat has seen
  abbrev pub TakesWriter : Place W → W → Place W → Type 0
  TakesWriter before writer after = (base_of writer ≡ before.me.0.terms.base)
      × Becomes before (with_writer before.me.0 (taken writer)) ((1, None) ∷ before.me.1) after

  -- the writer is over the table's base, and stands for a beginning of what the seat has seen
  abbrev pub MayPutWriter : Place W → W → Type 0
  MayPutWriter seat writer = (base_of writer ≡ seat.me.0.terms.base) × IsPrefix (taken writer) seat.me.0.member.seen

-- the members whose tokens were handed in, and the one that took them in
abbrev pub members_of : View → List Member
members_of v = v.gathered ++ v.member ∷ []

module _ {W : Type 0} where
  -- the seat has no part, has asked nothing, and took in no other
  pub record IsFree (seat : Place W) : Type 0 where
    pub token : IsToken seat
    pub rows : seat.me.0.holds_rows ≡ false
    pub writer : seat.me.0.holds_writer ≡ false
    pub asked : seat.me.0.asked ≡ None
    pub gathered : seat.me.0.gathered ≡ []

-- each client and each dispatcher is among the members
abbrev pub AreAll : Terms → List Member → Type 0
AreAll terms members = (place : ℕ) → place < terms.clients + terms.dispatchers → (k : ℕ) × (m : Member)
    × (get_elem? members k ≡ some m) × (m.who ≡ who_at terms.clients place)

-- there is a run of the protocol in which each event is enabled, a true run of this history, in which each of these
-- members did, and was told, what it says, and is as it says at the end: then nobody has a part, and every mailbox is
-- empty
pub record HasTrueRun (terms : Terms) (members : List Member) (history : List CommitRecord) : Type 0 where
  pub deeds : List Deed
  pub world : World
  pub done : HasDone (opening_world terms.base terms.clients terms.dispatchers) deeds world
  pub ends : world.history ≡ history
  pub rows : world.rows ≡ None
  pub writer : world.writer ≡ None
  pub mail : (number : ℕ) (box : Mailbox) → mailbox_at world number ≡ Some box → box ≡ empty
  pub true_run : IsTrueRun terms.base (events_of deeds) (replies_of deeds) history
  pub did : (k : ℕ) (m : Member) → get_elem? members k ≡ some m → m.did ≡ done_by m.who deeds
  pub tells : (k : ℕ) (m : Member) → get_elem? members k ≡ some m → part_of world m.who ≡ Some (part m)

-- the log is legal and has the commits of these members, each of whom has seen a beginning of it
pub record IsClosed (terms : Terms) (members : List Member) (rows : Warehouse) : Type 0 where
  pub base : rows.base ≡ terms.base
  pub legal : IsLegal terms.base rows.log
  pub named : IsOfClients terms.clients rows.log
  pub seen : (k : ℕ) (m : Member) → get_elem? members k ≡ some m → IsPrefix m.seen rows.log
  pub owns : (k : ℕ) (m : Member) → get_elem? members k ≡ some m → Owns m.who m.mine rows.log
  pub has_run : HasTrueRun terms members rows.log

-- What a token and a table keep.
use Rattle.history_core.specs.Counts.{most_clients}
use Rattle.std.specs.Prelude.{◌≡◌, ℕ, ◌+◌, ◌<◌, ◌≤◌, Bool, true, false, All, nat_lt, if◌then◌else◌, List, [], ◌∷◌}
use Rattle.std.specs.Prelude.{map, length, Option, Some, None}
use Rattle.atomic_table.specs.Seated.{TableId}
use Rattle.history.specs.declared.view.Terms.{Terms}
use Rattle.history.specs.declared.view.Held.{Held}
use Rattle.history.specs.declared.view.View.{View}
use Rattle.history.specs.declared.view.Role.TheVariants.{Token as Seat}
use Rattle.history.specs.declared.request.PostedRequest.{PostedRequest}
use Rattle.history.specs.declared.request.Grabbed.{Grabbed}
use Rattle.history.specs.declared.token.Token.TheInside.{Inside as Token}
use Rattle.history.specs.declared.shared_table.SharedTable.TheInside.{Inside as SharedTable}
use Rattle.history.specs.Members.{who_at}
use Rattle.history.specs.Rule.{Slot, terms_of, AreApart}
use Rattle.history.specs.Seats.{Place, IsToken}
use Rattle.history.specs.Tokens.{TableRecord, TokenRecord, IsSound, IsClient, IsDispatcher}
use Rattle.history.specs.Closing.{member_of}

abbrev pub table_of : TableId → Terms → TableRecord
table_of id terms =
    record { id = id; base = terms.base; clients = terms.clients; dispatchers = terms.dispatchers }

-- a slot is in the seat's hands while it has the part, before the others
abbrev pub hands : {W : Type 0} → ℕ → Bool → List (ℕ × Slot W) → List (ℕ × Slot W)
hands slot true others = (slot, None) ∷ others
hands slot false others = others

-- a client has its mailbox's slot while it asks nothing
abbrev pub own_box : {W : Type 0} → ℕ → Option PostedRequest → List (ℕ × Slot W)
own_box place None = (2 + place, None) ∷ []
own_box place (Some request) = []

-- a dispatcher has the slots of the requests that it grabbed
abbrev pub grabbed_boxes : {W : Type 0} → List Held → List (ℕ × Slot W)
grabbed_boxes grabbed = map (λ (h : Held). (2 + h.place, None)) grabbed

abbrev pub boxes : {W : Type 0} → View → ℕ → List (ℕ × Slot W)
boxes v place = if nat_lt place v.terms.clients then own_box place v.asked else grabbed_boxes v.grabbed

-- what a client has in hand, and what a dispatcher
abbrev pub IsInHand : View → ℕ → Type 0
IsInHand v place =
    (place < v.terms.clients → (v.has_box ≡ true) × (v.grabbed ≡ []) × (v.holds_writer ≡ false))
    × (v.terms.clients ≤ place → v.asked ≡ None)

-- a request in hand as contracts see it, by the client's number
abbrev pub shown : Held → Grabbed
shown h = record { client = h.place + 1; request = h.request }

abbrev pub token_of_view : TableId → View → TokenRecord
token_of_view id v = record {
  table = table_of id v.terms;
  who = v.member.who;
  seen = v.member.seen;
  mine = v.member.mine;
  beside = v.beside;
  has_rows = v.holds_rows;
  has_writer = v.holds_writer;
  asked = v.asked;
  mark = v.member.mark;
  version = v.member.version;
  grabbed = map shown v.grabbed;
  given = v.member.given;
  did = v.member.did;
}

abbrev pub table : {W : Type 0} → SharedTable W → TableRecord
table s = table_of s.ruled.shared.table_id (terms_of s.ruled.shared.key)

module _ {W : Type 0} where
  pub record IsRuled (s : SharedTable W) : Type 0 where
    pub words : s.ruled.shared.table_id.words ≡ 2 + s.ruled.shared.key.clients
    pub some : 1 ≤ s.ruled.shared.key.dispatchers

  abbrev pub shown_token : Token W → TokenRecord
  shown_token p = token_of_view p.seat.table_id p.seat.me.0

  pub record IsSeated (p : Token W) : Type 0 where
    pub role : p.seat.me.0.role ≡ Seat p.place
    pub who : p.who ≡ who_at p.seat.me.0.terms.clients p.place
    pub member : p.seat.me.0.member.who ≡ p.who
    pub seen_len : p.seen_len ≡ length p.seat.me.0.member.seen
    -- the places of the clients whose requests are in hand, in the order of their slots
    pub hand : p.hand.items ≡ map (λ (h : Held). h.place) p.seat.me.0.grabbed
    pub carried : p.seat.me.1
        ≡ hands 0 p.seat.me.0.holds_rows (hands 1 p.seat.me.0.holds_writer (boxes p.seat.me.0 p.place))
    pub in_hand : IsInHand p.seat.me.0 p.place
    pub few : p.seat.me.0.terms.clients ≤ most_clients
    pub near : All (λ (h : Held). h.place < p.seat.me.0.terms.clients) p.seat.me.0.grabbed
    pub apart : AreApart p.seat.me.0.grabbed
    pub gathered : p.seat.me.0.gathered ≡ []
    pub sound : IsSound (shown_token p)

-- the seat of a token; no client holds the writer, and no dispatcher asks
pub record IsSeatOf {W : Type 0} (t : TokenRecord) (seat : Place W) : Type 0 where
  pub table : table_of seat.table_id seat.me.0.terms ≡ t.table
  pub role : IsToken seat
  pub member : seat.me.0.member ≡ member_of t
  pub rows : seat.me.0.holds_rows ≡ t.has_rows
  pub writer : seat.me.0.holds_writer ≡ t.has_writer
  pub asked : seat.me.0.asked ≡ t.asked
  pub client : IsClient t → seat.me.0.holds_writer ≡ false
  pub dispatcher : IsDispatcher t → seat.me.0.asked ≡ None
  pub gathered : seat.me.0.gathered ≡ []

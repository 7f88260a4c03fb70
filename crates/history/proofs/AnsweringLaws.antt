-- Answers to requests in hand: what a token shows of its hand, and its slots in turn.
use Rattle.std.proofs.Common.{◌≡◌, ◌≢◌, ℕ, zero, suc, ◌+◌, ◌-◌, ◌<◌, ◌≤◌, ◌==◌, Bool, true, false, List, [], ◌∷◌, ◌++◌}
use Rattle.std.proofs.Common.{map, length, Some, None, refl, ap, sym, subst, ◌∙◌, arith, length-append}
use Rattle.std.proofs.lemmas.Bool.Decides.{nat_tests}
use Rattle.std.proofs.lemmas.List.{map-append}
use Rattle.std.specs.Prelude.{if◌then◌else◌, Contains, slice_get, remove}
use Rattle.std.proofs.lemmas.List.Elements.{All-cons}
use mathlib.Core.Option.{some, some-injective, some-ne-none}
use lib.ListN.{get_elem?}
use Rattle.atomic_table.specs.Table.{rest}
use Rattle.arrayvec.specs.ArrayVec.{ArrayVec}
use Rattle.history_core.specs.declared.response.Response.{Response}
use Rattle.history.specs.declared.request.PostedRequest.{PostedRequest}
use Rattle.history.specs.declared.view.Held.{Held}
use Rattle.history.specs.declared.token.Token.TheInside.{Inside as Token}
use Rattle.history.specs.Words.{IsFresh, given_to}
use Rattle.history.specs.Rule.{Slot, IsElsewhere}
use Rattle.history.specs.Plays.{held, request_at, without_at, served}
use Rattle.history.specs.Seats.{Place, turns}
use Rattle.history.specs.Tokens.{TokenRecord, request_of, without, Answers}
use Rattle.history.specs.TokenParts.{shown_token, shown, grabbed_boxes, IsSeated}
use Rattle.history.proofs.HistoryLaws.{each_of}
use Rattle.history.proofs.HandLaws.{request_there, Found, found_at, turns_split, few_apart}
use Rattle.history.proofs.PassingLaws.{passed}

one_more : (a b : ℕ) → (a + 1 == b + 1) ≡ (a == b)
one_more a b = grind (arith, nat_tests)

-- by a client's number as by its place
pub request_shown : (place : ℕ) (hs : List Held) → request_of (place + 1) (map shown hs) ≡ request_at place hs
request_shown place [] = refl
request_shown place (h ∷ hs) = (λ i. if one_more h.place place i then Some h.request else request_shown place hs i)

pub without_shown : (place : ℕ) (hs : List Held) → without (place + 1) (map shown hs) ≡ map shown (without_at place hs)
without_shown place [] = refl
without_shown place (h ∷ hs) = (λ i. if one_more h.place place i then map shown hs else shown h ∷ without_shown place hs
    i) ∙ sym (split (h.place == place))
  where
    split : (b : Bool) → map shown (if b then hs else h ∷ without_at place hs)
        ≡ (if b then map shown hs else shown h ∷ map shown (without_at place hs))
    split true = refl
    split false = refl

abbrev pub places : List Held → List ℕ
places hs = map (λ (h : Held). h.place) hs

length-places : (hs : List Held) → length (places hs) ≡ length hs
length-places [] = refl
length-places (h ∷ hs) = ap suc (length-places hs)

-- the place is among those in hand
pub contains_place : (place : ℕ) (hs : List Held) (k : ℕ) (asked : PostedRequest) → get_elem? hs k ≡ some (held place asked)
    → Contains (places hs) place
contains_place place [] k asked e = absurd (some-ne-none _ (sym e))
contains_place place (h ∷ hs) zero asked e = (
  0,
  omega arith,
  ap (λ (x : Held). x.place) (some-injective h (held place asked) e),
)
contains_place place (h ∷ hs) (suc k) asked e = let r = contains_place place hs k asked e in let low = r.1 in
    (suc r.0, omega arith, r.2)

pub at_slice : (place : ℕ) (hs : List Held) (k : ℕ) → slice_get (places hs) k ≡ Some place → (h : Held)
    × (get_elem? hs k ≡ some h) × (h.place ≡ place)
at_slice place [] k e = absurd (cc e)
at_slice place (h ∷ hs) zero e = let same : h.place ≡ place = cc e in (h, refl, same)
at_slice place (h ∷ hs) (suc k) e = at_slice place hs k e

removed_mid : {A : Type 0} (xs : List A) (y : A) (ys : List A) → remove (xs ++ y ∷ ys) (length xs) ≡ xs ++ ys
removed_mid [] y ys = refl
removed_mid (x ∷ xs) y ys = ap (λ l. x ∷ l) (removed_mid xs y ys)

length-boxes : (W : Type 0) (hs : List Held) → length (grabbed_boxes {W = W} hs) ≡ length hs
length-boxes W [] = refl
length-boxes W (h ∷ hs) = ap suc (length-boxes W hs)

module _ {W : Type 0} (place k : ℕ) (hs : List Held) (f : Found place k hs) where
  abbrev behind : List (ℕ × Slot W)
  behind = grabbed_boxes f.back ++ grabbed_boxes f.front

  -- the slots, turned so that this request's is the first
  pub turned_to : turns k (grabbed_boxes {W = W} hs) ≡ (2 + place, None) ∷ grabbed_boxes f.back ++ grabbed_boxes f.front
  turned_to = grind (arith, map-append, length-boxes, turns_split)

  -- and turned on to where they were
  pub turned_home : (n : ℕ) → n ≡ length f.back → turns n
      (grabbed_boxes {W = W} f.back ++ grabbed_boxes f.front) ≡ grabbed_boxes (without_at place hs)
  turned_home n e = grind (arith, behind, length-boxes, turns_split, map-append)

module _ (place k : ℕ) (hs : List Held) (f : Found place k hs) where
  pub left_places : remove (places hs) k ≡ places (without_at place hs)
  left_places = grind (arith, places, map-append, length-places, removed_mid)

module _ {W : Type 0} where
  pub answered_token : (p : Token W) (hand : ArrayVec ℕ) (after : Place W) (place client : ℕ) (asked : PostedRequest)
      (reply : Response) (carried : List (ℕ × Slot W)) → place + 1 ≡ client
      → request_at place p.seat.me.0.grabbed ≡ Some asked → IsFresh (given_to (place + 1) asked reply)
      → after.table_id ≡ p.seat.table_id → after.me ≡ (served p.seat.me.0 place reply, carried)
      → Answers (shown_token p) client reply (shown_token (passed p hand after p.seen_len))
  answered_token p hand after place client asked reply carried number has fresh table now = grind (arith, passed, request_shown, without_shown)

  -- there is room for one request more of a client that has none in hand
  pub has_room : (p : Token W) (place : ℕ) (asked : PostedRequest) → IsSeated p → place < p.seat.me.0.terms.clients
      → IsElsewhere place p.seat.me.0.grabbed → length p.hand.items < 16
  has_room p place asked is near elsewhere = let hs = p.seat.me.0.grabbed in let few = is.few in
      let long = few_apart p.seat.me.0.terms.clients (held place asked ∷ hs) (elsewhere, is.apart)
      (All-cons (λ (h : Held). h.place < p.seat.me.0.terms.clients) (held place asked) hs near is.near) in
      let same = ap length is.hand ∙ length-places hs in omega (arith, few, long, same)

  -- a request in hand, by its client's number
  pub record InHand (p : Token W) (client : ℕ) (asked : PostedRequest) : Type 0 where
    pub one : 1 ≤ client
    pub number : (client - 1) + 1 ≡ client
    pub has : request_at (client - 1) p.seat.me.0.grabbed ≡ Some asked
    pub near : client - 1 < p.seat.me.0.terms.clients
    pub contains : Contains p.hand.items (client - 1)

  pub in_hand : (p : Token W) (t : TokenRecord) (client : ℕ) (asked : PostedRequest) → shown_token p ≡ t → IsSeated p
      → request_of client t.grabbed ≡ Some asked → InHand p client asked
  in_hand p t client asked view is found = go client (ap (λ (x : TokenRecord). request_of client x.grabbed) view ∙ found)
    where
      hs : List Held
      hs = p.seat.me.0.grabbed

      none_of_zero : (l : List Held) → request_of 0 (map shown l) ≡ None
      none_of_zero [] = refl
      none_of_zero (h ∷ l) = let apart : (h.place + 1 == 0) ≡ false = grind (arith, nat_tests) in
          (λ i. if apart i then Some h.request else request_of 0 (map shown l)) ∙ none_of_zero l

      go : (n : ℕ) → request_of n (map shown hs) ≡ Some asked → InHand p n asked
      go zero e = absurd (cc (sym (none_of_zero hs) ∙ e))
      go (suc m) e = let back : suc m - 1 ≡ m = omega arith in let up : suc m ≡ m + 1 = omega arith in
          let has : request_at m hs ≡ Some asked = sym (request_shown m hs)
          ∙ (ap (λ n. request_of n (map shown hs)) (sym up) ∙ e) in let at = request_there m hs asked has in
          record {
            one = omega arith;
            number = omega arith;
            has = ap (λ n. request_at n hs) back ∙ has;
            near = subst (λ n. n < p.seat.me.0.terms.clients) (sym back)
                (each_of (λ (h : Held). h.place < p.seat.me.0.terms.clients) hs is.near at.0 (held m asked) at.1);
            contains = subst (λ (x : List ℕ × ℕ). Contains x.0 x.1) (λ i. (sym is.hand i, sym back i))
                (contains_place m hs at.0 asked at.1);
          }

  -- where its place stands in the hand stands its slot
  pub found_of : (p : Token W) (place k : ℕ) → IsSeated p → slice_get p.hand.items k ≡ Some place
      → Found place k p.seat.me.0.grabbed
  found_of p place k is e = let hs = p.seat.me.0.grabbed in let h =
      at_slice place hs k (ap (λ l. slice_get l k) (sym is.hand) ∙ e) in found_at place k hs h.0 is.apart h.1 h.2

  -- the slots after the answer, turned on to where they were
  pub slots_home : (p : Token W) (place k n : ℕ) (f : Found place k p.seat.me.0.grabbed)
      → p.seat.me.1 ≡ grabbed_boxes p.seat.me.0.grabbed → n ≡ length f.back
      → turns n (rest (turns k p.seat.me.1)) ≡ grabbed_boxes (without_at place p.seat.me.0.grabbed)
  slots_home p place k n f carried count = let hs = p.seat.me.0.grabbed in
      ap (λ cs. turns n (rest (turns k cs))) carried ∙ (ap (λ cs. turns n (rest cs)) (turned_to place k hs f)
      ∙ turned_home place k hs f n count)

-- how many slots stand behind
pub back_count : (place k : ℕ) (hs : List Held) (f : Found place k hs) (items : List ℕ)
    → items ≡ places (without_at place hs) → (k ≤ length items) × (length items - k ≡ length f.back)
back_count place k hs f items e = grind (arith, length-places, length-append)

pub within_hand : (place k : ℕ) (hs : List Held) (f : Found place k hs) (items : List ℕ) → items ≡ places hs
    → k < length items
within_hand place k hs f items e = grind (arith, length-places, length-append)

-- The requests in a dispatcher's hand, and their slots.
use Rattle.std.proofs.Common.{◌≡◌, ◌≢◌, ℕ, zero, suc, ◌+◌, ◌<◌, ◌≤◌, ◌==◌, Bool, true, false, List, [], ◌∷◌, ◌++◌}
use Rattle.std.proofs.Common.{length, Some, refl, ap, sym, subst, ◌∙◌, arith, append_assoc}
use Rattle.std.proofs.lemmas.Bool.Decides.{nat_tests}
use Rattle.std.proofs.lemmas.List.{append-nil}
use Rattle.std.proofs.lemmas.List.Elements.{All-cons, All-head, All-tail}
use Rattle.std.specs.Prelude.{All}
use mathlib.Core.Option.{some, some-injective, some-ne-none}
use lib.ListN.{get_elem?}
use Rattle.atomic_table.specs.Table.{turned}
use Rattle.history.specs.declared.request.PostedRequest.{PostedRequest}
use Rattle.history.specs.declared.view.Held.{Held}
use Rattle.history.specs.Rule.{IsElsewhere, AreApart}
use Rattle.history.specs.Plays.{held, request_at, without_at}
use Rattle.history.specs.Seats.{turns}
use Rattle.history.proofs.HistoryLaws.{each_of}

equal_yes : (a b : ℕ) → a ≡ b → (a == b) ≡ true
equal_yes a b e = grind (arith, nat_tests)

equal_no : (a b : ℕ) → a ≢ b → (a == b) ≡ false
equal_no a b n = grind (arith, nat_tests)

is_equal : (a b : ℕ) → (a == b) ≡ true → a ≡ b
is_equal a b e = grind (arith, nat_tests)

is_apart : (a b : ℕ) → (a == b) ≡ false → a ≢ b
is_apart a b e = grind (arith, nat_tests)

module _ (place : ℕ) (h : Held) (hs : List Held) where
  request_first : (h.place == place) ≡ true → request_at place (h ∷ hs) ≡ Some h.request
  request_first e = rw e refl

  request_later : (h.place == place) ≡ false → request_at place (h ∷ hs) ≡ request_at place hs
  request_later e = rw e refl

  without_first : (h.place == place) ≡ true → without_at place (h ∷ hs) ≡ hs
  without_first e = rw e refl

  without_later : (h.place == place) ≡ false → without_at place (h ∷ hs) ≡ h ∷ without_at place hs
  without_later e = rw e refl

-- a request in hand stands somewhere in the list
pub request_there : (place : ℕ) (hs : List Held) (asked : PostedRequest) → request_at place hs ≡ Some asked → (k : ℕ)
    × (get_elem? hs k ≡ some (held place asked))
request_there place [] asked e = absurd (cc e)
request_there place (h ∷ hs) asked e = go (request_there place hs asked) (h.place == place) refl
  where
    go : (request_at place hs ≡ Some asked → (k : ℕ) × (get_elem? hs k ≡ some (held place asked))) → (b : Bool)
        → (h.place == place) ≡ b → (k : ℕ) × (get_elem? (h ∷ hs) k ≡ some (held place asked))
    go later true equal = let at : Some h.request ≡ Some asked = sym (request_first place h hs equal) ∙ e in let here :
        h.place ≡ place = is_equal h.place place equal in let same : h.request ≡ asked = cc at in
        (0, λ i. some (held (here i) (same i)))
    go later false unequal = let r = later (sym (request_later place h hs unequal) ∙ e) in (suc r.0, r.1)

elsewhere_without : (q place : ℕ) (hs : List Held) → IsElsewhere q hs → IsElsewhere q (without_at place hs)
elsewhere_without q place [] all = all
elsewhere_without q place (h ∷ hs) all = go (elsewhere_without q place hs
    (All-tail (λ (x : Held). x.place ≢ q) h hs all)) (h.place == place) refl
  where
    go : IsElsewhere q (without_at place hs) → (b : Bool) → (h.place == place) ≡ b
        → IsElsewhere q (without_at place (h ∷ hs))
    go rest true equal = subst (IsElsewhere q) (sym (without_first place h hs equal))
        (All-tail (λ (x : Held). x.place ≢ q) h hs all)
    go rest false unequal = subst (IsElsewhere q) (sym (without_later place h hs unequal))
        (All-cons (λ (x : Held). x.place ≢ q) h (without_at place hs) (All-head (λ (x : Held). x.place ≢ q) h hs all)
        rest)

pub apart_without : (place : ℕ) (hs : List Held) → AreApart hs → AreApart (without_at place hs)
apart_without place [] apart = tt
apart_without place (h ∷ hs) apart = go (apart_without place hs apart.1) (h.place == place) refl
  where
    go : AreApart (without_at place hs) → (b : Bool) → (h.place == place) ≡ b → AreApart (without_at place (h ∷ hs))
    go rest true equal = subst AreApart (sym (without_first place h hs equal)) apart.1
    go rest false unequal = subst AreApart (sym (without_later place h hs unequal))
        (elsewhere_without h.place place hs apart.0, rest)

-- what is left in hand is of other clients
pub others_elsewhere : (place : ℕ) (hs : List Held) → AreApart hs → IsElsewhere place (without_at place hs)
others_elsewhere place [] apart = grind arith
others_elsewhere place (h ∷ hs) apart = grind (arith, without_first, is_equal, without_later, is_apart, others_elsewhere place hs apart.1)

pub was_there : (place : ℕ) (hs : List Held) (k : ℕ) (g : Held) → get_elem? (without_at place hs) k ≡ some g → (j : ℕ)
    × (get_elem? hs j ≡ some g)
was_there place [] k g at = (k, at)
was_there place (h ∷ hs) k g at = go (was_there place hs) (h.place == place) refl
  where
    later : ((n : ℕ) (u : Held) → get_elem? (without_at place hs) n ≡ some u → (j : ℕ) × (get_elem? hs j ≡ some u))
        → (k : ℕ) → get_elem? (h ∷ without_at place hs) k ≡ some g → (j : ℕ) × (get_elem? (h ∷ hs) j ≡ some g)
    later rest zero e = (0, e)
    later rest (suc n) e = let r = rest n g e in (suc r.0, r.1)

    go : ((n : ℕ) (u : Held) → get_elem? (without_at place hs) n ≡ some u → (j : ℕ) × (get_elem? hs j ≡ some u))
        → (b : Bool) → (h.place == place) ≡ b → (j : ℕ) × (get_elem? (h ∷ hs) j ≡ some g)
    go rest true equal = (suc k, ap (λ l. get_elem? l k) (sym (without_first place h hs equal)) ∙ at)
    go rest false unequal = later rest k (ap (λ l. get_elem? l k) (sym (without_later place h hs unequal)) ∙ at)

-- requests of clients that are all near stay so
pub all_without : (P : Held → Type 0) (place : ℕ) (hs : List Held) → All P hs → All P (without_at place hs)
all_without P place [] all = all
all_without P place (h ∷ hs) all = go (all_without P place hs (All-tail P h hs all)) (h.place == place) refl
  where
    go : All P (without_at place hs) → (b : Bool) → (h.place == place) ≡ b → All P (without_at place (h ∷ hs))
    go rest true equal = subst (All P) (sym (without_first place h hs equal)) (All-tail P h hs all)
    go rest false unequal = subst (All P) (sym (without_later place h hs unequal))
        (All-cons P h (without_at place hs) (All-head P h hs all) rest)

length-without : (place : ℕ) (hs : List Held) → length hs ≤ length (without_at place hs) + 1
length-without place [] = grind arith
length-without place (h ∷ hs) = grind (arith, without_first, without_later, length-without place hs)

-- requests of different clients are no more than there are clients
pub few_apart : (count : ℕ) (hs : List Held) → AreApart hs → All (λ (h : Held). h.place < count) hs → length hs ≤ count
few_apart zero [] apart low = omega arith
few_apart zero (h ∷ hs) apart low = let none = All-head (λ (x : Held). x.place < zero) h hs low in
    absurd (omega (arith, none))
few_apart (suc count) hs apart low = let more = length-without count hs in
    let lower : All (λ (h : Held). h.place < count) (without_at count hs) = λ k d at. let a =
    all_without (λ (h : Held). h.place < suc count) count hs low k d at in let b =
    others_elsewhere count hs apart k d at in omega (arith, a, b) in
    let few = few_apart count (without_at count hs) (apart_without count hs apart) lower in omega (arith, more, few)

-- a request in hand, and those before and behind it
pub record Found (place k : ℕ) (hs : List Held) : Type 0 where
  pub asked : PostedRequest
  pub front : List Held
  pub back : List Held
  pub whole : hs ≡ front ++ held place asked ∷ back
  pub at : length front ≡ k
  pub left : without_at place hs ≡ front ++ back
  pub is : request_at place hs ≡ Some asked

pub found_at : (place k : ℕ) (hs : List Held) (g : Held) → AreApart hs → get_elem? hs k ≡ some g → g.place ≡ place
    → Found place k hs
found_at place k [] g apart at same = absurd (some-ne-none g (sym at))
found_at place zero (h ∷ hs) g apart at same = let here : h.place ≡ place =
    ap (λ (x : Held). x.place) (some-injective h g at) ∙ same in let equal = equal_yes h.place place here in record {
      asked = h.request;
      front = [];
      back = hs;
      whole = λ i. held (here i) h.request ∷ hs;
      at = refl;
      left = without_first place h hs equal;
      is = request_first place h hs equal;
    }
found_at place (suc k) (h ∷ hs) g apart at same = let r = found_at place k hs g apart.1 at same in
    let unequal = equal_no h.place place (λ e. each_of (λ (x : Held). x.place ≢ h.place) hs apart.0 k g at
    (same ∙ sym e)) in record {
      asked = r.asked;
      front = h ∷ r.front;
      back = r.back;
      whole = ap (λ l. h ∷ l) r.whole;
      at = ap suc r.at;
      left = without_later place h hs unequal ∙ ap (λ l. h ∷ l) r.left;
      is = request_later place h hs unequal ∙ r.is;
    }

-- turning the slots so many times as there are in front brings those behind to the front
module _ {A : Type 0} where
  pub turns_more : (k : ℕ) (xs : List (ℕ × A)) → turned (turns k xs) ≡ turns (suc k) xs
  turns_more zero xs = refl
  turns_more (suc k) xs = turns_more k (turned xs)

  pub turns_split : (front back : List (ℕ × A)) → turns (length front) (front ++ back) ≡ back ++ front
  turns_split [] back = grind (arith, append-nil)
  turns_split (x ∷ xs) back = grind (arith, append_assoc, turns_split xs (back ++ x ∷ []))

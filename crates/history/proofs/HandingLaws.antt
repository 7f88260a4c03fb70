-- Tokens that are handed in one by one, the last first.
use Rattle.std.proofs.Common.{◌≡◌, ℕ, zero, suc, ◌+◌, ◌-◌, ◌<◌, ◌≤◌, ◌==◌, Bool, true, false, List, [], ◌∷◌, ◌++◌, map}
use Rattle.std.proofs.Common.{length, refl, ap, sym, subst, ◌∙◌, arith, append_assoc}
use Rattle.std.proofs.lemmas.Bool.Decides.{nat_tests}
use Rattle.std.proofs.lemmas.List.{map-append}
use Rattle.std.proofs.lemmas.List.Sums.{length-filter}
use Rattle.std.specs.Prelude.{nat_lt, filter, count_by, All}
use mathlib.Core.Option.{some, some-injective, some-ne-none}
use lib.ListN.{get_elem?}
use Rattle.row_store.specs.History.{IsPrefix, Warehouse}
use Rattle.history_core.specs.declared.event.Who.TheVariants.{Client, Dispatcher}
use Rattle.history.specs.declared.view.Member.{Member}
use Rattle.history.specs.declared.view.View.{View}
use Rattle.history.specs.Words.{Owns}
use Rattle.history.specs.Members.{who_at, number_of}
use Rattle.history.specs.Plays.{gathers}
use Rattle.history.specs.Seats.{members_of, AreAll, IsClosed}
use Rattle.history.specs.Tokens.{TableRecord, TokenRecord}
use Rattle.history.specs.Closing.{IsClientOf, IsDispatcherOf, AreClients, AreDispatchers, terms_in, member_of}
use Rattle.history.specs.Closing.{members_in, IsLogOf}
use Rattle.history.proofs.HistoryLaws.{all_of, each_of}
use Rattle.history.proofs.MemberLaws.{who_client}

module _ {A : Type 0} where
  pub at_front : (xs ys : List A) (k : ℕ) (x : A) → get_elem? xs k ≡ some x → get_elem? (xs ++ ys) k ≡ some x
  at_front [] ys k x e = absurd (some-ne-none x (sym e))
  at_front (z ∷ zs) ys zero x e = e
  at_front (z ∷ zs) ys (suc k) x e = at_front zs ys k x e

  pub at_behind : (xs ys : List A) (k : ℕ) (x : A) → get_elem? ys k ≡ some x
      → get_elem? (xs ++ ys) (length xs + k) ≡ some x
  at_behind [] ys k x e = grind arith
  at_behind (z ∷ zs) ys k x e = grind (arith, at_behind zs ys k x e)

  pub at_back : (xs : List A) (x : A) → get_elem? (xs ++ x ∷ []) (length xs) ≡ some x
  at_back [] x = refl
  at_back (z ∷ zs) x = at_back zs x

  pub none_left : (xs : List A) → length xs ≡ 0 → xs ≡ []
  none_left [] e = refl
  none_left (x ∷ xs) e = absurd (omega arith)

  -- where a test tokens once, some element tokens it
  tokens : (test : A → Bool) (xs : List A) → 1 ≤ length (filter test xs) → (k : ℕ) × (x : A) × (get_elem? xs k ≡ some x)
      × (test x ≡ true)
  tokens test [] h = absurd (omega arith)
  tokens test (x ∷ xs) h = go (tokens test xs) (test x) refl
    where
      go : (1 ≤ length (filter test xs) → (k : ℕ) × (y : A) × (get_elem? xs k ≡ some y) × (test y ≡ true)) → (b : Bool)
          → test x ≡ b → (k : ℕ) × (y : A) × (get_elem? (x ∷ xs) k ≡ some y) × (test y ≡ true)
      go rest true e = (0, x, refl, e)
      go rest false e = let skip : filter test (x ∷ xs) ≡ filter test xs = rw e refl in let r =
          rest (subst (λ l. 1 ≤ length l) skip h) in (suc r.0, r.1, r.2, r.3)

  pub counted_once : (test : A → Bool) (xs : List A) → count_by test xs ≡ 1 → (k : ℕ) × (x : A)
      × (get_elem? xs k ≡ some x) × (test x ≡ true)
  counted_once test xs once = let n = length-filter test xs in tokens test xs (omega (arith, n, once))

pub at_map : {A B : Type 0} (f : A → B) (xs : List A) (k : ℕ) (x : A) → get_elem? xs k ≡ some x
    → get_elem? (map f xs) k ≡ some (f x)
at_map f [] k x e = absurd (some-ne-none x (sym e))
at_map f (y ∷ ys) zero x e = ap (λ z. some (f z)) (some-injective y x e)
at_map f (y ∷ ys) (suc k) x e = at_map f ys k x e

-- the last token becomes the closing seat
pub handed_first : (left : List TokenRecord) (t : TokenRecord) (v : View) → v.member ≡ member_of t → v.gathered ≡ []
    → members_in (left ++ t ∷ []) ≡ members_in left ++ members_of v
handed_first left t v member bare = grind (arith, map-append)

-- the closing seat takes the next one in
pub handed_more : (rest : List TokenRecord) (t : TokenRecord) (v o : View) → o.member ≡ member_of t → members_in (rest ++ t ∷ [])
    ++ members_of v ≡ members_in rest ++ members_of (gathers v o)
handed_more rest t v o member = grind (arith, map-append, append_assoc)

-- what holds of all holds of the last, and of those before it
pub last_has : (P : TokenRecord → Type 0) (all left : List TokenRecord) (t : TokenRecord) → All P all → all ≡ left ++ t ∷ [] → P t
last_has P all left t rest e = each_of P (left ++ t ∷ []) (subst (All P) e rest) (length left) t (at_back left t)

pub left_have : (P : TokenRecord → Type 0) (all left : List TokenRecord) (t : TokenRecord) → All P all → all ≡ left ++ t ∷ [] → All P left
left_have P all left t rest e = all_of P left (λ k u at. each_of P (left ++ t ∷ []) (subst (All P) e rest) k u
    (at_front left (t ∷ []) k u at))

is_number : (n m : ℕ) → (n == m) ≡ true → n ≡ m
is_number n m e = grind (arith, nat_tests)

-- the places of clients and of dispatchers are those of the tokens
module _ (table : TableRecord) (clients dispatchers : List TokenRecord) (firsts : AreClients table clients)
    (seconds : AreDispatchers table dispatchers) where
  pub all_there : AreAll (terms_in table) (members_in clients ++ members_in dispatchers)
  all_there place within = go (nat_lt place table.clients) refl
    where
      Goal : Type 0
      Goal = (k : ℕ) × (m : Member) × (get_elem? (members_in clients ++ members_in dispatchers) k ≡ some m)
          × (m.who ≡ who_at table.clients place)

      go : (b : Bool) → nat_lt place table.clients ≡ b → Goal
      go true low = let near : place < table.clients = grind (arith, nat_tests) in let found =
          counted_once (λ (t : TokenRecord). number_of t.who == place + 1) clients (firsts.numbered.each place near) in
          let t : TokenRecord = found.1 in let is = (each_of (IsClientOf table) clients firsts.left found.0 t found.2).client
          in
          let number : number_of t.who ≡ place + 1 = is_number (number_of t.who) (place + 1) found.3 in (
            found.0,
            member_of t,
            at_front (members_in clients) (members_in dispatchers) found.0 (member_of t)
                (at_map member_of clients found.0 t found.2),
            is.1 ∙ (ap (λ n. Client n) (sym (ap number_of is.1) ∙ number) ∙ sym (who_client table.clients place near)),
          )
      go false high = let far : table.clients ≤ place = grind (arith, nat_tests) in let found =
          counted_once (λ (t : TokenRecord). number_of t.who == (place - table.clients) + 1) dispatchers
          (seconds.numbered.each (place - table.clients) (omega (arith, far, within))) in
          let t : TokenRecord = found.1 in let is = (each_of (IsDispatcherOf table) dispatchers seconds.left found.0 t
          found.2).dispatcher in
          let number : number_of t.who ≡ (place - table.clients) + 1 =
          is_number (number_of t.who) ((place - table.clients) + 1) found.3 in
          let name : who_at table.clients place ≡ Dispatcher ((place - table.clients) + 1) = rw high refl in (
            length (members_in clients) + found.0,
            member_of t,
            at_behind (members_in clients) (members_in dispatchers) found.0 (member_of t)
                (at_map member_of dispatchers found.0 t found.2),
            is.1 ∙ (ap (λ n. Dispatcher n) (sym (ap number_of is.1) ∙ number) ∙ sym name),
          )

-- what is left, where all members of the closing seat are those of the two lists
module _ (table : TableRecord) (clients dispatchers : List TokenRecord) (rows : Warehouse)
    (closed : IsClosed (terms_in table) (members_in clients ++ members_in dispatchers) rows) where
  pub clients_saw : All (λ (t : TokenRecord). IsPrefix t.seen rows.log) clients
  clients_saw = all_of (λ (t : TokenRecord). IsPrefix t.seen rows.log) clients
      (λ k t at. closed.seen k (member_of t) (at_front (members_in clients) (members_in dispatchers) k (member_of t)
      (at_map member_of clients k t at)))

  pub dispatchers_saw : All (λ (t : TokenRecord). IsPrefix t.seen rows.log) dispatchers
  dispatchers_saw = all_of (λ (t : TokenRecord). IsPrefix t.seen rows.log) dispatchers
      (λ k t at. closed.seen (length (members_in clients) + k) (member_of t)
      (at_behind (members_in clients) (members_in dispatchers) k (member_of t)
      (at_map member_of dispatchers k t at)))

  pub clients_own : All (λ (t : TokenRecord). Owns t.who t.mine rows.log) clients
  clients_own = all_of (λ (t : TokenRecord). Owns t.who t.mine rows.log) clients
      (λ k t at. closed.owns k (member_of t) (at_front (members_in clients) (members_in dispatchers) k (member_of t)
      (at_map member_of clients k t at)))

  pub log_is_true : IsLogOf table clients dispatchers rows.log
  log_is_true = closed.has_run

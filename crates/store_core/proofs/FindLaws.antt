-- What `find` knows of the segments that it has looked at, and what that comes to.
use Rattle.std.proofs.Common.{◌≡◌, ◌⊎◌, ℕ, ◌+◌, ◌^◌, ◌<◌, ◌≤◌, List, [], ◌∷◌, ◌++◌, length}
use Rattle.std.proofs.Common.{refl, sym, ap, ◌∙◌, inl, inr, arith, Option, Some, None, IfSome, subst, unwrap_or, is_some}
use Rattle.std.proofs.Common.{Bool, true, false, eqb, cond, suc, ◌-◌, take, append_assoc, append-nil}
use Rattle.std.proofs.lemmas.Bool.{cases_lt, eqb-true, eqb-false, or_cases, lt-ltb, le-ltb}
use Rattle.std.proofs.lemmas.Option.{slice_get_within, get_or_from_slice_get}
use Rattle.std.proofs.lemmas.List.Elements.{filter_more}
use Rattle.std.specs.List.{list_any}
use Rattle.std.specs.Option.{option_eq}
use Rattle.std.specs.Prelude.{slice_index, slice_get, filter, nat_lt, IsTrue, IsSome, SomeIff}
use Rattle.std.specs.declared.vec.Vec.{Vec}
use Rattle.std.specs.declared.alloc.Global.{Global}
use Rattle.store_core.specs.Found.{Store, Found, Finds, AreNewest, IsBegin, IsLast, IsChain, end_of, commits_in}
use Rattle.store_core.specs.Finding.{AreNumbersOf, begins_of, Tells, AreJoined, Leads, IsStray, OneFinding}
use Rattle.store_core.specs.Walked.{IsWalked}
use Rattle.store_core.specs.declared.finding.FoundStore.{FoundStore}
use Rattle.store_core.proofs.ListLaws.{end-after, end-begins, end-snoc, first-begins, snoc-begins, begin-before, no_some}

-- whether a number is the next one, where that is told if it fits
pub is-next : (next : Option ℕ) (x n : ℕ) → SomeIff next (n < 2 ^ 64) n → true ≡ option_eq eqb next (Some x) → x ≡ n
is-next None x n h e = absurd cc
is-next (Some y) x n h e = sym (eqb-true y x (sym e)) ∙ h.1

pub is-other : (next : Option ℕ) (x n : ℕ) → x < 2 ^ 64 → SomeIff next (n < 2 ^ 64) n
    → false ≡ option_eq eqb next (Some x) → x ≡ n → ⊥
is-other None x n fits h e is = h (omega (arith, fits, is))
is-other (Some y) x n fits h e is = eqb-false y x (sym e) (h.1 ∙ sym is)

pub no-commits : {C : Type 0} (commits : List C) (answer : Bool) → answer ≡ false → (0 < length commits → IsTrue answer)
    → commits ≡ []
no-commits [] answer e h = refl
no-commits (c ∷ cs) answer e h = absurd (let t : answer ≡ true = h (omega arith) in cc)

-- the last of ascending numbers are those of the newest tables
newest : {T : Type 0} (files : ℕ → Option T) (numbers : List ℕ) → AreNumbersOf files numbers → (n : ℕ)
    → Some n ≡ slice_get numbers (length numbers - 1) → (tables : T) × AreNewest files n tables
newest {T} files numbers are n last = with_tables (files n) refl there
  where
    inside : length numbers - 1 < length numbers
    inside = slice_get_within numbers (length numbers - 1) n (sym last)

    is : slice_index numbers (length numbers - 1) ≡ n
    is = get_or_from_slice_get numbers (length numbers - 1) n 0 (sym last)

    there : IsSome (files n)
    there = subst (λ (m : ℕ). IsSome (files m)) is (are.there (length numbers - 1) inside)

    none_newer : (m : ℕ) → n < m → (o : Option T) → files m ≡ o → o ≡ None
    none_newer m far None e = refl
    none_newer m far (Some t) e = absurd (by (are.all m (ap is_some e)))
      where
        by : ((k : ℕ) × (k < length numbers) × (slice_index numbers k ≡ m)) → ⊥
        by k = last_or (cases_lt k.0 (length numbers - 1))
          where
            last_or : (k.0 < length numbers - 1) ⊎ (length numbers - 1 ≤ k.0) → ⊥
            last_or (inl before) =
                let up = are.ascending k.0 (length numbers - 1) before inside in omega (arith, up, is, k.2, far)
            last_or (inr at) =
                let e : slice_index numbers k.0 ≡ slice_index numbers (length numbers - 1) =
                ap (slice_index numbers) (omega (arith, at, k.1)) in
                omega (arith, e, is, k.2, far)

    with_tables : (o : Option T) → files n ≡ o → IsSome o → (tables : T) × AreNewest files n tables
    with_tables None e some = absurd cc
    with_tables (Some t) e some = (t, record { are = e; none_newer = λ m far. none_newer m far (files m) refl })

pub newest_as : {T : Type 0} (files : ℕ → Option T) (numbers : List ℕ) → AreNumbersOf files numbers → (n after : ℕ)
    → after ≡ n → Some n ≡ slice_get numbers (length numbers - 1) → (tables : T) × AreNewest files after tables
newest_as files numbers are n after same last = newest files numbers are after (ap Some same ∙ last)

-- a number that is listed is that of a file
pub listed : {A : Type 0} (files : ℕ → Option A) (numbers : List ℕ) (n : ℕ)
    → ((k : ℕ) → k < length numbers → IsSome (files (slice_index numbers k)))
    → list_any (λ y. eqb y n) numbers ≡ true → IsSome (files n)
listed files [] n there any = absurd cc
listed {A} files (x ∷ xs) n there any = elim (or_cases (eqb x n) (list_any (λ y. eqb y n) xs) any) [
  | inl here ↦ subst (λ (m : ℕ). IsSome (files m)) (eqb-true x n here) (there 0 (omega arith))
  | inr later ↦ listed files xs n (λ k low. there (suc k) (omega arith)) later
]

-- the segments that were seen, when one more is, or when one stands before the newest tables
pub seen-more : (before old new numbers : List ℕ) (after i : ℕ) → i < length numbers → after < slice_index numbers i
    → old ≡ before ++ after ∷ filter (λ n. nat_lt after n) (take i numbers) → new ≡ old ++ slice_index numbers i ∷ []
    → new ≡ before ++ after ∷ filter (λ n. nat_lt after n) (take (i + 1) numbers)
seen-more before old new numbers after i inside far was is =
    is ∙ ap (λ l. l ++ slice_index numbers i ∷ []) was
    ∙ append_assoc before (after ∷ filter (λ n. nat_lt after n) (take i numbers)) (slice_index numbers i ∷ [])
    ∙ ap (λ l. before ++ after ∷ l)
    (sym (filter_more (λ n. nat_lt after n) numbers i 0 inside
    ∙ ap (λ b. filter (λ n. nat_lt after n) (take i numbers) ++ cond b (slice_index numbers i ∷ []) [])
    (lt-ltb after (slice_index numbers i) far)))

pub seen-less : (numbers : List ℕ) (after i : ℕ) → i < length numbers → slice_index numbers i ≤ after
    → filter (λ n. nat_lt after n) (take i numbers) ≡ filter (λ n. nat_lt after n) (take (i + 1) numbers)
seen-less numbers after i inside early =
    sym (filter_more (λ n. nat_lt after n) numbers i 0 inside
    ∙ ap (λ b. filter (λ n. nat_lt after n) (take i numbers) ++ cond b (slice_index numbers i ∷ []) [])
    (le-ltb after (slice_index numbers i) early) ∙ append-nil (filter (λ n. nat_lt after n) (take i numbers)))

is-there : {C : Type 0} (o : Option (List C)) → IsSome o → o ≡ Some (unwrap_or o [])
is-there None there = absurd cc
is-there (Some commits) there = refl

-- what has commits is there
some-there : {C : Type 0} (o : Option (List C)) → 0 < length (unwrap_or o []) → IsSome o
some-there None some = absurd (omega arith)
some-there (Some commits) some = refl

same-read : {C : Type 0} (o : Option (List C)) (a b : List C) → o ≡ Some a → o ≡ Some b → a ≡ b
same-read o a b e f = cc

read-is : {C : Type 0} (o : Option (List C)) (a : List C) → o ≡ Some a → unwrap_or o [] ≡ a
read-is o a e = ap (λ p. unwrap_or p []) e

module _ {C : Type 0} (segments : ℕ → Option (List C)) where
  pub are_joined-snoc : (at : ℕ) (parts : List (List C)) (p : List C) → AreJoined segments at parts
      → segments (end_of at parts) ≡ Some p → 0 < length p → AreJoined segments at (parts ++ p ∷ [])
  are_joined-snoc at [] p h there some = (there, some, tt)
  are_joined-snoc at (q ∷ qs) p h there some = (h.0, h.1, are_joined-snoc (at + length q) qs p h.2 there some)

  pub begins_of-snoc : (at : ℕ) (parts : List (List C)) (p : List C)
      → begins_of at (parts ++ p ∷ []) ≡ begins_of at parts ++ end_of at parts ∷ []
  begins_of-snoc at [] p = refl
  begins_of-snoc at (q ∷ qs) p = ap (λ ns. at ∷ ns) (begins_of-snoc (at + length q) qs p)

  -- segments lead to where each of them begins
  pub begin-leads : (at : ℕ) (parts : List (List C)) (n : ℕ) → AreJoined segments at parts → IsBegin at parts n
      → Leads segments at n
  begin-leads at [] n h e = ([], tt, sym e)
  begin-leads at (p ∷ ps) n h (inl e) = ([], tt, sym e)
  begin-leads at (p ∷ ps) n h (inr b) =
      let l = begin-leads (at + length p) ps n h.2 b in (p ∷ l.0, (h.0, h.1, l.1), l.2)

  pub chain-joined : (at : ℕ) (parts : List (List C)) (last : List C) → IsChain segments at parts last
      → AreJoined segments at parts
  chain-joined at [] last h = tt
  chain-joined at (p ∷ ps) last h = (h.0, h.1, chain-joined (at + length p) ps last h.2)

  joined-chain : (at : ℕ) (parts : List (List C)) (last : List C) → AreJoined segments at parts
      → segments (end_of at parts) ≡ Some last → IsLast segments (end_of at parts) last → IsChain segments at parts last
  joined-chain at [] last h there ends = (there, ends)
  joined-chain at (p ∷ ps) last h there ends = (h.0, h.1, joined-chain (at + length p) ps last h.2 there ends)

  pub chain-begun : (at : ℕ) (parts : List (List C)) (last : List C) → IsChain segments at parts last
      → segments at ≡ None → ⊥
  chain-begun at [] last h none = no_some (segments at) last none h.0
  chain-begun at (p ∷ ps) last h none = no_some (segments at) p none h.0

  begun : (at : ℕ) (parts : List (List C)) (last : List C) → AreJoined segments at parts
      → segments (end_of at parts) ≡ Some last → IsSome (segments at)
  begun at [] last h there = ap is_some there
  begun at (p ∷ ps) last h there = ap is_some h.0

  -- no further than there, or there is a segment there
  leads-on : (at : ℕ) (parts : List (List C)) → AreJoined segments at parts
      → (end_of at parts ≡ at) ⊎ ((at < end_of at parts) × IsSome (segments at))
  leads-on at [] h = inl refl
  leads-on at (p ∷ ps) h =
      inr (omega (arith, h.1, end-after (at + length p) ps), ap is_some h.0)

  -- where others lead, one of these begins; or it is where the last one ends, or behind a segment that begins there
  lead-is : (at : ℕ) (parts : List (List C)) (last : List C) (others : List (List C)) → AreJoined segments at parts
      → segments (end_of at parts) ≡ Some last → AreJoined segments at others
      → IsBegin at parts (end_of at others)
      ⊎ ((0 < length last) × ((end_of at others ≡ end_of at parts + length last)
      ⊎ ((end_of at parts + length last < end_of at others) × IsSome (segments (end_of at parts + length last)))))
  lead-is at parts last [] h there other = inl (first-begins at parts)
  lead-is at [] last (q ∷ qs) h there other =
      let same : q ≡ last = same-read (segments at) q last other.0 there in
      inr (subst (λ (x : List C). (0 < length x) × ((end_of (at + length q) qs ≡ at + length x)
      ⊎ ((at + length x < end_of (at + length q) qs) × IsSome (segments (at + length x))))) same
      (other.1, leads-on (at + length q) qs other.2))
  lead-is at (p ∷ ps) last (q ∷ qs) h there other =
      let same : p ≡ q = same-read (segments at) p q h.0 other.0 in
      elim (lead-is (at + length q) ps last qs (subst (λ (x : List C). AreJoined segments (at + length x) ps) same h.2)
      (subst (λ (x : List C). segments (end_of (at + length x) ps) ≡ Some last) same there) other.2) [
        | inl b ↦ inl (inr (subst (λ (x : List C). IsBegin (at + length x) ps (end_of (at + length q) qs)) (sym same) b))
        | inr beyond ↦
            inr (subst (λ (x : List C). (0 < length last)
            × ((end_of (at + length q) qs ≡ end_of (at + length x) ps + length last)
            ⊎ ((end_of (at + length x) ps + length last < end_of (at + length q) qs)
            × IsSome (segments (end_of (at + length x) ps + length last))))) (sym same) beyond)
      ]

  module _ (numbers : List ℕ) (are : AreNumbersOf segments numbers) where
    -- it begins with the segment behind the newest tables
    pub begins : (after : ℕ) (none : Vec ℕ Global) (next : Option ℕ) → none.items ≡ [] → IsSome (segments after)
        → SomeIff next (after + length (commits_in segments after) < 2 ^ 64) (after + length (commits_in segments after))
        → IsWalked segments numbers 0 record { after = after; closed = none; last = after } next
    begins after none next empty there next_is = record {
      parts = [];
      end = commits_in segments after;
      joined = tt;
      there = is-there (segments after) there;
      closed = empty;
      last = refl;
      next_is = next_is;
      seen = λ k low far. absurd (omega arith);
      open_end = λ some k low. absurd (omega arith);
      low = λ k high inside far. far;
    }

    module _ (count : ℕ) (told : FoundStore) (next : Option ℕ) (w : IsWalked segments numbers count told next)
        (inside : count < length numbers) where
      this-number : (k : ℕ) → k < count + 1 → count ≤ k → slice_index numbers k ≡ slice_index numbers count
      this-number k low high = ap (slice_index numbers) (omega arith)

      -- it passes by a segment that has no commits, or stands before the newest tables
      pub passes : (told.after < slice_index numbers count → commits_in segments (slice_index numbers count) ≡ [])
          → (0 < length w.end → slice_index numbers count ≡ told.last + length w.end → ⊥)
          → IsWalked segments numbers (count + 1) told next
      passes none apart = record {
        parts = w.parts;
        end = w.end;
        joined = w.joined;
        there = w.there;
        closed = w.closed;
        last = w.last;
        next_is = w.next_is;
        seen = λ k low far. seen k low far (cases_lt k count);
        open_end = λ some k low. open_end some k low (cases_lt k count);
        low = λ k high inside far. w.low k (omega arith) inside far;
      }
        where
          seen : (k : ℕ) → k < count + 1 → told.after < slice_index numbers k → (k < count) ⊎ (count ≤ k)
              → IsBegin told.after w.parts (slice_index numbers k) ⊎ (commits_in segments (slice_index numbers k) ≡ [])
          seen k low far (inl less) = w.seen k less far
          seen k low far (inr more) =
              inr (subst (λ (n : ℕ). commits_in segments n ≡ []) (sym (this-number k low more))
              (none (subst (λ (n : ℕ). told.after < n) (this-number k low more) far)))

          open_end : 0 < length w.end → (k : ℕ) → k < count + 1 → (k < count) ⊎ (count ≤ k)
              → slice_index numbers k ≡ told.last + length w.end → ⊥
          open_end some k low (inl less) = w.open_end some k less
          open_end some k low (inr more) = λ is. apart some (sym (this-number k low more) ∙ is)

      pub skips : slice_index numbers count ≤ told.after → IsWalked segments numbers (count + 1) told next
      skips early =
          passes (λ far. absurd (omega arith))
          (λ some is. let l = end-after told.after w.parts in omega (arith, w.last, is))

      -- it stands where the last one ends: that one is closed
      pub goes-on : (closed : Vec ℕ Global) (later : Option ℕ) → told.after < slice_index numbers count
          → slice_index numbers count ≡ told.last + length w.end → closed.items ≡ told.closed.items ++ told.last ∷ []
          → SomeIff later (slice_index numbers count + length (commits_in segments (slice_index numbers count)) < 2 ^ 64)
          (slice_index numbers count + length (commits_in segments (slice_index numbers count)))
          → IsWalked segments numbers (count + 1)
          record { after = told.after; closed = closed; last = slice_index numbers count } later
      goes-on closed later far is pushed later_is = record {
        parts = w.parts ++ w.end ∷ [];
        end = commits_in segments (slice_index numbers count);
        joined = are_joined-snoc told.after w.parts w.end w.joined
            (subst (λ (n : ℕ). segments n ≡ Some w.end) w.last w.there) some;
        there = is-there (segments (slice_index numbers count)) (are.there count inside);
        closed = pushed ∙ ap (λ ns. ns ++ told.last ∷ []) w.closed
            ∙ ap (λ (n : ℕ). begins_of told.after w.parts ++ n ∷ []) w.last
            ∙ sym (begins_of-snoc told.after w.parts w.end);
        last = ends;
        next_is = later_is;
        seen = λ k low far. seen k low far (cases_lt k count);
        open_end = λ some k low more. (let up = risen k low in omega arith);
        low = λ k high inside far. are.ascending count k (omega arith) inside;
      }
        where
          some : 0 < length w.end
          some = let low = w.low count (omega arith) inside far in omega arith

          ends : slice_index numbers count ≡ end_of told.after (w.parts ++ w.end ∷ [])
          ends = omega (arith, is, w.last, end-snoc told.after w.parts w.end)

          seen : (k : ℕ) → k < count + 1 → told.after < slice_index numbers k → (k < count) ⊎ (count ≤ k)
              → IsBegin told.after (w.parts ++ w.end ∷ []) (slice_index numbers k)
              ⊎ (commits_in segments (slice_index numbers k) ≡ [])
          seen k low far (inl less) = elim (w.seen k less far) [
            | inl b ↦ inl (snoc-begins told.after w.parts w.end (slice_index numbers k) b)
            | inr none ↦ inr none
          ]
          seen k low far (inr more) =
              inl (subst (λ (n : ℕ). IsBegin told.after (w.parts ++ w.end ∷ []) n)
              (sym (this-number k low more ∙ ends)) (end-begins told.after (w.parts ++ w.end ∷ [])))

          risen : (k : ℕ) → k < count + 1 → slice_index numbers k ≤ slice_index numbers count
          risen k low = by (cases_lt k count)
            where
              by : (k < count) ⊎ (count ≤ k) → slice_index numbers k ≤ slice_index numbers count
              by (inl less) = let h = are.ascending k count less inside in omega arith
              by (inr more) = let e = this-number k low more in omega arith

      -- no segments lead to one that stands elsewhere
      unled : told.after < slice_index numbers count → (slice_index numbers count ≡ told.last + length w.end → ⊥)
          → Leads segments told.after (slice_index numbers count) → ⊥
      unled far apart leads =
          by (lead-is told.after w.parts w.end leads.0 w.joined
          (subst (λ (n : ℕ). segments n ≡ Some w.end) w.last w.there) leads.1)
        where
          low : told.last < slice_index numbers count
          low = w.low count (omega arith) inside far

          by : IsBegin told.after w.parts (end_of told.after leads.0)
              ⊎ ((0 < length w.end) × ((end_of told.after leads.0 ≡ end_of told.after w.parts + length w.end)
              ⊎ ((end_of told.after w.parts + length w.end < end_of told.after leads.0)
              × IsSome (segments (end_of told.after w.parts + length w.end))))) → ⊥
          by (inl b) =
              let h = begin-before told.after w.parts (end_of told.after leads.0) b in
              omega (arith, h, low, w.last, leads.2)
          by (inr (some, inl e)) = apart (omega (arith, e, w.last, leads.2))
          by (inr (some, inr far)) =
              let k = are.all (end_of told.after w.parts + length w.end) far.1 in
              listed some k.0 k.1 k.2 far.0 (cases_lt k.0 count) (cases_lt count k.0)
            where
              listed : 0 < length w.end → (k : ℕ) → k < length numbers
                  → slice_index numbers k ≡ end_of told.after w.parts + length w.end
                  → end_of told.after w.parts + length w.end < end_of told.after leads.0
                  → (k < count) ⊎ (count ≤ k) → (count < k) ⊎ (k ≤ count) → ⊥
              listed some k there is less (inl before) right =
                  w.open_end some k before (omega (arith, is, w.last))
              listed some k there is less (inr at) (inl behind) =
                  let up = are.ascending count k behind there in omega (arith, up, is, less, leads.2)
              listed some k there is less (inr at) (inr here) =
                  let e : slice_index numbers k ≡ slice_index numbers count = ap (slice_index numbers) (omega arith) in
                  omega (arith, e, is, less, leads.2)

      -- so where it has commits, it is the first stray
      pub strays : told.after < slice_index numbers count → (slice_index numbers count ≡ told.last + length w.end → ⊥)
          → 0 < length (commits_in segments (slice_index numbers count))
          → IsStray segments told.after (slice_index numbers count)
      strays far apart some = record {
        begun = begun told.after w.parts w.end w.joined (subst (λ (n : ℕ). segments n ≡ Some w.end) w.last w.there);
        behind = far;
        some = some;
        apart = unled far apart;
        first = first;
      }
        where
          first : (m : ℕ) → told.after < m → m < slice_index numbers count → 0 < length (commits_in segments m)
              → Leads segments told.after m
          first m far less some =
              let k = are.all m (some-there (segments m) some) in
              by k.0 k.1 k.2 (cases_lt k.0 count) (cases_lt count k.0)
            where
              by : (k : ℕ) → k < length numbers → slice_index numbers k ≡ m → (k < count) ⊎ (count ≤ k)
                  → (count < k) ⊎ (k ≤ count) → Leads segments told.after m
              by k there is (inl before) right =
                  elim (w.seen k before (omega (arith, is, far))) [
                    | inl b ↦
                        begin-leads told.after w.parts m w.joined (subst (λ (n : ℕ). IsBegin told.after w.parts n) is b)
                    | inr none ↦ absurd (let e : length (commits_in segments m) ≡ 0 =
                        ap (λ (n : ℕ). length (commits_in segments n)) (sym is) ∙ ap length none in omega arith)
                  ]
              by k there is (inr at) (inl behind) =
                  absurd (let up = are.ascending count k behind there in omega (arith, up, is, less))
              by k there is (inr at) (inr here) =
                  absurd (let e : slice_index numbers k ≡ slice_index numbers count = ap (slice_index numbers) (omega arith) in
                  omega (arith, e, is, less))

-- when all were looked at, a start finds this
pub finds : {T C : Type 0} (store : Store T C) (numbers : List ℕ) (told : FoundStore) (next : Option ℕ) (tables : T)
    → AreNumbersOf store.segments numbers → AreNewest store.tables told.after tables
    → IsWalked store.segments numbers (length numbers) told next → Tells store told
finds {T} {C} store numbers told next tables are newest w = record {
  found = record { after = told.after; tables = tables; closed = w.parts; last = w.end };
  finds = record {
    newest = newest;
    chain = joined-chain store.segments told.after w.parts w.end w.joined there (is_last w.end refl);
    no_gap = λ n far. no_gap n far (store.segments n) refl;
  };
  after = refl;
  closed = w.closed;
  last = w.last;
}
  where
    there : store.segments (end_of told.after w.parts) ≡ Some w.end
    there = subst (λ (n : ℕ). store.segments n ≡ Some w.end) w.last w.there

    none-follows : 0 < length w.end → (o : Option (List C)) → store.segments (told.last + length w.end) ≡ o → o ≡ None
    none-follows some None e = refl
    none-follows some (Some commits) e =
        let k = are.all (told.last + length w.end) (ap is_some e) in absurd (w.open_end some k.0 k.1 k.2)

    is_last : (end : List C) → w.end ≡ end → IsLast store.segments (end_of told.after w.parts) end
    is_last [] e = tt
    is_last (c ∷ cs) e =
        let l : length w.end ≡ length (c ∷ cs) = ap length e in
        let some : 0 < length w.end = omega (arith, l) in
        ap store.segments (omega (arith, l, w.last)) ∙ none-follows some (store.segments (told.last + length w.end)) refl

    no_gap : (n : ℕ) → told.after < n → (o : Option (List C)) → store.segments n ≡ o
        → IsBegin told.after w.parts n ⊎ IfSome (store.segments n) (λ commits. commits ≡ [])
    no_gap n far None e = inr (subst (λ (o : Option (List C)). IfSome o (λ commits. commits ≡ [])) (sym e) tt)
    no_gap n far (Some commits) e =
        let k = are.all n (ap is_some e) in
        elim (w.seen k.0 k.1 (omega (arith, k.2, far))) [
          | inl b ↦ inl (subst (λ (m : ℕ). IsBegin told.after w.parts m) k.2 b)
          | inr none ↦
              inr (subst (λ (o : Option (List C)). IfSome o (λ commits. commits ≡ [])) (sym e)
              (sym (read-is (store.segments n) commits e)
              ∙ ap (commits_in store.segments) (sym k.2) ∙ none))
        ]

one-newest : {T : Type 0} (tables : ℕ → Option T) (a b : ℕ) (t u : T) → AreNewest tables a t → AreNewest tables b u → a ≡ b
one-newest tables a b t u x y = by (cases_lt a b) (cases_lt b a)
  where
    by : (a < b) ⊎ (b ≤ a) → (b < a) ⊎ (a ≤ b) → a ≡ b
    by (inl less) right = absurd (no_some (tables b) u (x.none_newer b less) y.are)
    by (inr left) (inl more) = absurd (no_some (tables a) t (y.none_newer a more) x.are)
    by (inr left) (inr right) = omega arith

-- what has commits is not without them
not-empty : {C : Type 0} (o : Option (List C)) → 0 < length (unwrap_or o []) → IfSome o (λ commits. commits ≡ []) → ⊥
not-empty None some none = omega arith
not-empty (Some commits) some none = let l : length commits ≡ 0 = ap length none in omega arith

first-stray : {C : Type 0} (segments : ℕ → Option (List C)) (after n m : ℕ) → IsStray segments after n
    → IsStray segments after m → n < m → ⊥
first-stray segments after n m a b less = a.apart (b.first n a.behind less a.some)

pub one_finding : {T C : Type 0} (store : Store T C) → OneFinding store
one_finding {T} {C} store = record {
  not_none = λ found finds none. no_some (store.tables found.after) found.tables (none found.after) finds.newest.are;
  no_gap = λ found n finds gap. no_gap found n finds gap.after
      (one-newest store.tables gap.after found.after gap.tables found.tables gap.newest finds.newest) gap.gap;
  not_both = λ n gap none. no_some (store.tables gap.after) gap.tables (none gap.after) gap.newest.are;
  one_gap = λ n m a b. one_gap n m a.after b.after
      (one-newest store.tables a.after b.after a.tables b.tables a.newest b.newest) a.gap b.gap;
}
  where
    no_gap : (found : Found T C) (n : ℕ) → Finds store found → (after : ℕ) → after ≡ found.after
        → ((n ≡ after) × (store.segments after ≡ None)) ⊎ IsStray store.segments after n → ⊥
    no_gap found n finds after same (inl lost) =
        chain-begun store.segments found.after found.closed found.last finds.chain (ap store.segments (sym same) ∙ lost.1)
    no_gap found n finds after same (inr stray) = elim (finds.no_gap n (omega (arith, same, stray.behind))) [
      | inl b ↦ stray.apart (subst (λ (a : ℕ). Leads store.segments a n) (sym same)
          (begin-leads store.segments found.after found.closed n
          (chain-joined store.segments found.after found.closed found.last finds.chain) b))
      | inr none ↦ not-empty (store.segments n) stray.some none
    ]

    one_gap : (n m a b : ℕ) → a ≡ b → ((n ≡ a) × (store.segments a ≡ None)) ⊎ IsStray store.segments a n
        → ((m ≡ b) × (store.segments b ≡ None)) ⊎ IsStray store.segments b m → n ≡ m
    one_gap n m a b same (inl lost) (inl other) = lost.0 ∙ same ∙ sym other.0
    one_gap n m a b same (inl lost) (inr stray) =
        absurd (let e : true ≡ false = sym stray.begun ∙ ap is_some (ap store.segments (sym same) ∙ lost.1) in cc)
    one_gap n m a b same (inr stray) (inl lost) =
        absurd (let e : true ≡ false = sym stray.begun ∙ ap is_some (ap store.segments same ∙ lost.1) in cc)
    one_gap n m a b same (inr one) (inr other) =
        by (subst (λ (c : ℕ). IsStray store.segments c m) (sym same) other) (cases_lt n m) (cases_lt m n)
      where
        by : IsStray store.segments a m → (n < m) ⊎ (m ≤ n) → (m < n) ⊎ (n ≤ m) → n ≡ m
        by other (inl less) right = absurd (first-stray store.segments a n m one other less)
        by other (inr left) (inl more) = absurd (first-stray store.segments a m n other one more)
        by other (inr left) (inr right) = omega arith

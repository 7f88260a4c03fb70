-- Segments that stand there whatever crashes, one behind another.
use Rattle.std.proofs.Common.{◌≡◌, ◌⊎◌, ℕ, ◌+◌, ◌<◌, ◌≤◌, cond, List, [], ◌∷◌, ◌++◌, length, take}
use Rattle.std.proofs.Common.{refl, sym, ap, ◌∙◌, inl, inr, arith, subst, Option, Some, None, IfSome, option_map, take_all, append-nil}
use Rattle.std.proofs.Common.{eq-eqb, ne_eqb}
use Rattle.std.proofs.lemmas.Bool.{cases_eq}
use Rattle.store_core.specs.Places.{Place, sure, renamed, MayStand, Segment, settled, SegmentLeft}
use Rattle.store_core.specs.Found.{joined, end_of, IsBegin, IsChain}
use Rattle.store_core.specs.World.{changed, changed_at}
use Rattle.store_core.proofs.ListLaws.{end-after, take-none}

abbrev pub IsSureChain : {C : Type 0} → (ℕ → Place (Segment C)) → ℕ → List (List C) → Segment C → Type 0
IsSureChain segments at [] last = segments at ≡ sure (Some last)
IsSureChain segments at (part ∷ parts) last =
    (segments at ≡ sure (Some (settled part))) × (0 < length part) × IsSureChain segments (at + length part) parts last

pub changed-same : {A : Type 0} (number : ℕ) (f : A → A) (all : ℕ → A) (n : ℕ) → n ≡ number
    → changed_at number f all n ≡ f (all n)
changed-same number f all n e = ap (λ b. cond b (f (all n)) (all n)) (eq-eqb n number e)

pub changed-other : {A : Type 0} (number : ℕ) (f : A → A) (all : ℕ → A) (n : ℕ) → (n ≡ number → ⊥)
    → changed_at number f all n ≡ all n
changed-other number f all n apart = ap (λ b. cond b (f (all n)) (all n)) (ne_eqb n number apart)

-- what holds of each number, where that of one is changed
pub changed-each : {A : Type 0} (P : ℕ → A → Type 0) (number : ℕ) (f : A → A) (all : ℕ → A) → P number (f (all number))
    → ((n : ℕ) → P n (all n)) → (n : ℕ) → P n (changed_at number f all n)
changed-each {A} P number f all here others n = by (cases_eq n number)
  where
    by : (n ≡ number) ⊎ (n ≡ number → ⊥) → P n (changed_at number f all n)
    by (inl e) =
        subst (P n) (sym (changed-same number f all n e)) (subst (λ (m : ℕ). P m (f (all m))) (sym e) here)
    by (inr apart) = subst (P n) (sym (changed-other number f all n apart)) (others n)

-- and of each file that may stand under a name, when another gets it
pub renamed-each : {A : Type 0} (P : Option A → Type 0) (new : Option A) (place : Place A) → P new
    → ((file : Option A) → MayStand place file → P file) → (file : Option A) → MayStand (renamed new place) file → P file
renamed-each P new place here old file (inl e) = subst P (sym e) here
renamed-each P new place here old file (inr stands) = old file stands

pub stands-sure : {A : Type 0} (place : Place A) (is file : Option A) → place ≡ sure is → MayStand place file → file ≡ is
stands-sure place is file e stands = only (subst (λ p. MayStand p file) e stands)
  where
    only : MayStand (sure is) file → file ≡ is
    only (inl same) = same
    only (inr never) = absurd never

pub sure-apart : {C : Type 0} (segments new : ℕ → Place (Segment C)) (at : ℕ) (parts : List (List C)) (last : Segment C)
    → ((n : ℕ) → IsBegin at parts n → new n ≡ segments n) → IsSureChain segments at parts last
    → IsSureChain new at parts last
sure-apart segments new at [] last same h = same at refl ∙ h
sure-apart segments new at (p ∷ ps) last same h =
    (same at (inl refl) ∙ h.0, h.1, sure-apart segments new (at + length p) ps last (λ n b. same n (inr b)) h.2)

pub sure-last : {C : Type 0} (segments : ℕ → Place (Segment C)) (f : Segment C → Segment C) (at : ℕ)
    (parts : List (List C)) (last : Segment C) (end : ℕ) → end ≡ end_of at parts → IsSureChain segments at parts last
    → IsSureChain (changed_at end (changed f) segments) at parts (f last)
sure-last segments f at [] last end e h =
    changed-same end (changed f) segments at (sym e) ∙ ap (changed f) h
sure-last segments f at (p ∷ ps) last end e h =
    let far : at + length p ≤ end_of (at + length p) ps = end-after (at + length p) ps in
    let apart : at ≡ end → ⊥ = λ same. omega (arith, same, e, far, h.1) in (
      changed-other end (changed f) segments at apart ∙ h.0,
      h.1,
      sure-last segments f (at + length p) ps last end e h.2,
    )

pub sure-end : {C : Type 0} (segments : ℕ → Place (Segment C)) (at : ℕ) (parts : List (List C)) (last : Segment C)
    → IsSureChain segments at parts last → segments (end_of at parts) ≡ sure (Some last)
sure-end segments at [] last h = h
sure-end segments at (p ∷ ps) last h = sure-end segments (at + length p) ps last h.2

pub sure-snoc : {C : Type 0} (segments : ℕ → Place (Segment C)) (at : ℕ) (parts : List (List C)) (p : List C)
    (new : Segment C) → IsSureChain segments at parts (settled p) → 0 < length p
    → segments (end_of at parts + length p) ≡ sure (Some new) → IsSureChain segments at (parts ++ p ∷ []) new
sure-snoc segments at [] p new h some there = (h, some, there)
sure-snoc segments at (q ∷ qs) p new h some there =
    (h.0, h.1, sure-snoc segments (at + length q) qs p new h.2 some there)

pub sure-synced : {C : Type 0} (segments : ℕ → Place (Segment C)) (at : ℕ) (parts : List (List C)) (last : Segment C)
    → IsSureChain segments at parts last → IsSureChain (λ n. sure (segments n).now) at parts last
sure-synced segments at [] last h = ap (λ place. sure place.now) h
sure-synced segments at (p ∷ ps) last h =
    (ap (λ place. sure place.now) h.0, h.1, sure-synced segments (at + length p) ps last h.2)

pub sure-tail : {C : Type 0} (segments : ℕ → Place (Segment C)) (at : ℕ) (before parts : List (List C))
    (last : Segment C) → IsSureChain segments at (before ++ parts) last
    → IsSureChain segments (end_of at before) parts last
sure-tail segments at [] parts last h = h
sure-tail segments at (p ∷ ps) parts last h = sure-tail segments (at + length p) ps parts last h.2

-- a chain that is on the disk
pub sure-chain : {C : Type 0} (segments : ℕ → Option (List C)) (at : ℕ) (parts : List (List C)) (last : List C)
    → IsChain segments at parts last → IsSureChain (λ n. sure (option_map settled (segments n))) at parts (settled last)
sure-chain segments at [] last h = ap (λ o. sure (option_map settled o)) h.0
sure-chain segments at (p ∷ ps) last h =
    (ap (λ o. sure (option_map settled o)) h.0, h.1, sure-chain segments (at + length p) ps last h.2)

-- what a crash leaves of a file that stands there, and of one that has no commits
pub left-sure : {C : Type 0} (place : Place (Segment C)) (segment : Segment C) (left : Option (List C))
    → place ≡ sure (Some segment) → (file : Option (Segment C)) × MayStand place file × SegmentLeft file left
    → (count : ℕ) × (segment.synced ≤ count) × (left ≡ Some (take count segment.commits))
left-sure {C} place segment left e may =
    let is : may.0 ≡ Some segment = stands-sure place (Some segment) may.0 e may.1 in
    subst (λ (file : Option (Segment C)). SegmentLeft file left) is may.2

pub left-settled : {C : Type 0} (place : Place (Segment C)) (part : List C) (left : Option (List C))
    → place ≡ sure (Some (settled part)) → (file : Option (Segment C)) × MayStand place file × SegmentLeft file left
    → left ≡ Some part
left-settled place part left e may =
    let h = left-sure place (settled part) left e may in
    h.2 ∙ ap Some (take_all h.0 part h.1)

pub left-empty : {C : Type 0} (file : Option (Segment C)) (left : Option (List C))
    → IfSome file (λ segment. segment.commits ≡ []) → SegmentLeft file left → IfSome left (λ commits. commits ≡ [])
left-empty None left none is = subst (λ o. IfSome o (λ commits. commits ≡ [])) (sym is) tt
left-empty (Some segment) left none is =
    subst (λ o. IfSome o (λ commits. commits ≡ [])) (sym is.2) (take-none is.0 segment.commits none)

-- what a crash leaves of such a chain
pub record LeftChain {C : Type 0} (left : ℕ → Option (List C)) (at : ℕ) (parts : List (List C)) (last : Segment C)
    : Type 0 where
  pub closed : List (List C)
  pub end : List C
  pub count : ℕ
  pub enough : last.synced ≤ count
  pub chain : IsChain left at closed end
  pub same : joined closed end ≡ joined parts (take count last.commits)
  pub begins : (n : ℕ) → IsBegin at parts n → IsBegin at closed n

left-last : {C : Type 0} (left : ℕ → Option (List C)) (at : ℕ) (last : Segment C) (count : ℕ) (kept : List C)
    (next : Option (List C)) → last.synced ≤ count → kept ≡ take count last.commits → left at ≡ Some kept
    → left (at + length kept) ≡ next → (0 < length kept → IfSome next (λ commits. commits ≡ []))
    → LeftChain left at [] last
left-last left at last count [] next enough is there beyond none = record {
  closed = [];
  end = [];
  count = count;
  enough = enough;
  chain = (there, tt);
  same = is;
  begins = λ n b. b;
}
left-last left at last count (c ∷ cs) None enough is there beyond none = record {
  closed = [];
  end = c ∷ cs;
  count = count;
  enough = enough;
  chain = (there, beyond);
  same = is;
  begins = λ n b. b;
}
left-last left at last count (c ∷ cs) (Some more) enough is there beyond none =
    let some : 0 < length (c ∷ cs) = omega arith in
    record {
      closed = (c ∷ cs) ∷ [];
      end = [];
      count = count;
      enough = enough;
      chain = (there, some, (beyond ∙ ap Some (none some), tt));
      same = append-nil (c ∷ cs) ∙ is;
      begins = λ n b. inl b;
    }

pub left-chain : {C : Type 0} (segments : ℕ → Place (Segment C)) (left : ℕ → Option (List C))
    (may : (n : ℕ) → (file : Option (Segment C)) × MayStand (segments n) file × SegmentLeft file (left n))
    (at : ℕ) (parts : List (List C)) (last : Segment C) → IsSureChain segments at parts last
    → ((n : ℕ) → end_of at parts < n → IfSome (left n) (λ commits. commits ≡ []))
    → LeftChain left at parts last
left-chain segments left may at [] last h none =
    let is = left-sure (segments at) last (left at) h (may at) in
    left-last left at last is.0 (take is.0 last.commits) (left (at + length (take is.0 last.commits))) is.1 refl is.2 refl
    (λ some. none (at + length (take is.0 last.commits)) (omega arith))
left-chain segments left may at (p ∷ ps) last h none =
    let rest = left-chain segments left may (at + length p) ps last h.2 none in
    record {
      closed = p ∷ rest.closed;
      end = rest.end;
      count = rest.count;
      enough = rest.enough;
      chain = (left-settled (segments at) p (left at) h.0 (may at), h.1, rest.chain);
      same = ap (λ l. p ++ l) rest.same;
      begins = λ n b. elim b [ inl e ↦ inl e | inr later ↦ inr (rest.begins n later) ];
    }

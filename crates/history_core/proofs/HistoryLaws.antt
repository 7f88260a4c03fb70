-- Lists that grow, lists with one element changed, and legal histories.
use Rattle.std.proofs.Common.{◌≡◌, ◌≢◌, ◌⊎◌, ℕ, zero, suc, ◌<◌, ◌≤◌, ◌==◌, Bool, true, List, [], ◌∷◌}
use Rattle.std.proofs.Common.{◌++◌}
use Rattle.std.proofs.Common.{length, take, Some, None, refl, ap, sym, ◌∙◌, inl, inr, ⊎_elim, arith, zero-le}
use Rattle.std.proofs.lemmas.List.{append-nil}
use Rattle.std.proofs.lemmas.List.Elements.{filter-append}
use Rattle.std.proofs.lemmas.Bool.Decides.{nat_tests}
use Rattle.std.specs.Prelude.{filter, slice_get}
use Rattle.row_store.specs.History.{CommitRecord}
use Rattle.history_core.specs.Numbered.{copies, revised, numbered, renewed, is_there}
use Rattle.history_core.specs.World.{DispatcherState, unmarked}
use Rattle.history_core.specs.Kept.{HasMark, Marks}
use Rattle.history_core.specs.OwnCommits.{IsOfClients, commits_of}

pub some_injective : {A : Type 0} (a b : A) → Some a ≡ Some b → a ≡ b
some_injective a b e = cc e

pub some_ne_none : {A : Type 0} (a : A) → Some a ≡ None → ⊥
some_ne_none a e = cc e

module _ {A : Type 0} where
  -- what a list has it has when more follows
  pub at_front : (l m : List A) (j : ℕ) (b : A) → slice_get l j ≡ Some b → slice_get (l ++ m) j ≡ Some b
  at_front [] m j b e = absurd (some_ne_none b (sym e))
  at_front (x ∷ xs) m zero b e = e
  at_front (x ∷ xs) m (suc j) b e = at_front xs m j b e

  pub at_last : (l : List A) (a : A) → slice_get (l ++ a ∷ []) (length l) ≡ Some a
  at_last [] a = refl
  at_last (x ∷ xs) a = at_last xs a

  -- the last place of a list that grew by one
  pub at_end : (l : List A) (a b : A) (j : ℕ) → slice_get (l ++ a ∷ []) j ≡ Some b
      → ((j < length l) × (slice_get l j ≡ Some b)) ⊎ ((j ≡ length l) × (a ≡ b))
  at_end [] a b zero e = inr (refl, some_injective a b e)
  at_end [] a b (suc j) e = absurd (some_ne_none b (sym e))
  at_end (x ∷ xs) a b zero e = inl (omega arith, e)
  at_end (x ∷ xs) a b (suc j) e =
      ⊎_elim (λ t. let h = t.0 in inl (omega arith, t.1)) (λ t. inr (ap suc t.0, t.1)) (at_end xs a b j e)

  -- a list with one element changed
  pub at_revised : (l : List A) (i j : ℕ) (f : A → A) (b : A) → slice_get (revised l i f) j ≡ Some b
      → ((j ≡ i) × ((a : A) × (slice_get l i ≡ Some a) × (f a ≡ b))) ⊎ ((j ≢ i) × (slice_get l j ≡ Some b))
  at_revised [] i j f b e = grind (arith, some_ne_none)
  at_revised (x ∷ xs) zero zero f b e = grind (arith, some_injective)
  at_revised (x ∷ xs) zero (suc j) f b e = grind arith
  at_revised (x ∷ xs) (suc i) zero f b e = grind arith
  at_revised (x ∷ xs) (suc i) (suc j) f b e = grind (arith, ⊎_elim, at_revised xs i j f b e)

  pub length-revised : (l : List A) (i : ℕ) (f : A → A) → length (revised l i f) ≡ length l
  length-revised [] i f = refl
  length-revised (x ∷ xs) zero f = refl
  length-revised (x ∷ xs) (suc i) f = ap suc (length-revised xs i f)

-- what holds of each element of a list, and of one that f changes
pub each_revised : {A : Type 0} (P Q : ℕ → A → Type 0) (l : List A) (i : ℕ) (f : A → A)
    → ((j : ℕ) (a : A) → slice_get l j ≡ Some a → P j a) → ((a : A) → slice_get l i ≡ Some a → P i a → Q i (f a))
    → ((j : ℕ) (a : A) → j ≢ i → slice_get l j ≡ Some a → P j a → Q j a) → (j : ℕ) (b : A)
    → slice_get (revised l i f) j ≡ Some b → Q j b
each_revised {A} P Q l i f all here others j b at = grind (arith, ⊎_elim, at_revised)

pub in_range : {A : Type 0} (l : List A) (i : ℕ) (a : A) → slice_get l i ≡ Some a → i < length l
in_range [] i a e = absurd (some_ne_none a (sym e))
in_range (x ∷ xs) zero a e = omega arith
in_range (x ∷ xs) (suc i) a e = let h = in_range xs i a e in omega arith

-- the same for elements that are numbered from 1
pub each_renewed : {A : Type 0} (P Q : ℕ → A → Type 0) (l : List A) (i : ℕ) (f : A → A)
    → ((j : ℕ) (a : A) → numbered l j ≡ Some a → P j a) → ((a : A) → numbered l i ≡ Some a → P i a → Q i (f a))
    → ((j : ℕ) (a : A) → j ≢ i → numbered l j ≡ Some a → P j a → Q j a) → (j : ℕ) (b : A)
    → numbered (renewed l i f) j ≡ Some b → Q j b
each_renewed P Q l i f all here others zero b at = absurd (some_ne_none b (sym at))
each_renewed P Q l zero f all here others (suc j) b at = others (suc j) b (λ h. omega arith) at (all (suc j) b at)
each_renewed P Q l (suc i) f all here others (suc j) b at =
    each_revised (λ n. P (suc n)) (λ n. Q (suc n)) l i f (λ n a. all (suc n) a) here
    (λ n a apart. others (suc n) a (λ h. apart (omega arith))) j b at

pub length-renewed : {A : Type 0} (l : List A) (i : ℕ) (f : A → A) → length (renewed l i f) ≡ length l
length-renewed l zero f = refl
length-renewed l (suc i) f = length-revised l i f

pub length-copies : {A : Type 0} (count : ℕ) (x : A) → length (copies count x) ≡ count
length-copies zero x = refl
length-copies (suc count) x = ap suc (length-copies count x)

pub at_copies : {A : Type 0} (count place : ℕ) (x y : A) → slice_get (copies count x) place ≡ Some y → x ≡ y
at_copies zero place x y e = absurd (some_ne_none y (sym e))
at_copies (suc count) zero x y e = some_injective x y e
at_copies (suc count) (suc place) x y e = at_copies count place x y e

pub numbered_copies : {A : Type 0} (count number : ℕ) (x y : A) → numbered (copies count x) number ≡ Some y → x ≡ y
numbered_copies count zero x y e = absurd (some_ne_none y (sym e))
numbered_copies count (suc place) x y e = at_copies count place x y e

-- a filter keeps of the first elements no more than of all
pub filter_take : {A : Type 0} (test : A → Bool) (n : ℕ) (l : List A)
    → length (filter test (take n l)) ≤ length (filter test l)
filter_take test zero l = grind (arith, zero-le)
filter_take test (suc n) [] = grind (arith, zero-le)
filter_take {A} test (suc n) (x ∷ xs) = grind (arith, filter_take test n xs)

pub named_push : (clients : ℕ) (log : List CommitRecord) (commit : CommitRecord) → IsOfClients clients log
    → (1 ≤ commit.client) × (commit.client ≤ clients) → IsOfClients clients (log ++ commit ∷ [])
named_push clients log commit of is = grind (arith, ⊎_elim, at_end)

-- a commit of this client is one more of its own, and one of another changes nothing
pub own_push : (client : ℕ) (log : List CommitRecord) (commit : CommitRecord) → commit.client ≡ client
    → commits_of client (log ++ commit ∷ []) ≡ commits_of client log ++ commit ∷ []
own_push client log commit e = grind (arith, filter-append, nat_tests)

pub others_push : (client : ℕ) (log : List CommitRecord) (commit : CommitRecord) → commit.client ≢ client
    → commits_of client (log ++ commit ∷ []) ≡ commits_of client log
others_push client log commit n = grind (arith, nat_tests, filter-append, append-nil)

-- the marks of dispatchers of which one changed
pub marks_renewed : (ds : List DispatcherState) (number : ℕ) (g : DispatcherState → DispatcherState) (top : ℕ)
    → ((x : DispatcherState) (mark : ℕ) → HasMark (g x) mark → (HasMark x mark) ⊎ (mark ≡ top))
    → (n mark : ℕ) → Marks (renewed ds number g) n mark → (Marks ds n mark) ⊎ (mark ≡ top)
marks_renewed ds number g top gives n mark has =
    each_renewed (λ n x. numbered ds n ≡ Some x)
    (λ n x. (m : ℕ) → HasMark x m → (Marks ds n m) ⊎ (m ≡ top)) ds number g (λ j a at. at)
    (λ a at _ m marked. ⊎_elim (λ (was : HasMark a m). inl (a, at, was)) (λ (new : m ≡ top). inr new)
    (gives a m marked))
    (λ j a apart at _ m marked. inl (a, at, marked))
    n has.0 has.1 mark has.2

pub unmarked_none : (ds : List DispatcherState) (number mark : ℕ) → Marks (renewed ds number unmarked) number mark → ⊥
unmarked_none ds number mark has =
    each_renewed (λ n x. Unit {0}) (λ n x. n ≡ number → HasMark x mark → ⊥) ds number unmarked (λ j a at. tt)
    (λ a at _ _ marked. ⊎_elim (λ (e : None ≡ Some mark). cc e) (λ (e : None ≡ Some mark). cc e) marked)
    (λ j a apart at _ same marked. apart same)
    number has.0 has.1 refl has.2

pub known_range : {A : Type 0} (l : List A) (number : ℕ) → is_there (numbered l number) ≡ true → (1 ≤ number)
    × (number ≤ length l)
known_range {A = A} l zero e = grind arith
known_range {A = A} l (suc place) e = grind (arith, in_range)

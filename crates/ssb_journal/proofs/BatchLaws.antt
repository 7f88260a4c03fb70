-- Texts behind the first ones, and what was found of each.
use Rattle.std.proofs.Common.{◌≡◌, ℕ, zero, suc, ◌<◌, ◌≤◌, List, [], ◌∷◌, Vec, Global, Option, None, Some, Ok, Result}
use Rattle.std.proofs.Common.{◌++◌, true, false, length, get_or, drop, map, refl, sym, ◌∙◌, ap, subst, arith}
use Rattle.std.proofs.Common.{append_assoc}
use Rattle.std.proofs.lemmas.List.{map_push}
use Rattle.journal.specs.Groups.{lists}
use Rattle.ssb_journal.specs.Seals.{sealed}
use Rattle.std.specs.List.{AllZip}
use Rattle.std.specs.declared.alloc.AllocError.{AllocError}
use Rattle.row_store.specs.declared.commit.Commit.{Commit}
use Rattle.ssb_journal.specs.Gathered.{AreNext, IsBatchOf, IsTextOf}
use Rattle.ssb_journal.specs.Kept.{SpellsBatch, SpellsNoBatch}

-- the next of them, with what was found of it, and those behind it
pub record Next {A B : Type 0} (R : A → B → Type 0) (xs : List A) (i : ℕ) (y : B) (ys : List B) : Type 0 where
  pub x : A
  pub inside : i < length xs
  pub is : x ≡ get_or xs i x
  pub one : R x y
  pub later : AllZip R (drop (suc i) xs) ys

pub next : {A B : Type 0} (R : A → B → Type 0) (xs : List A) (i : ℕ) (y : B) (ys : List B)
    → AllZip R (drop i xs) (y ∷ ys) → Next R xs i y ys
next R [] zero y ys all = absurd all
next R [] (suc i) y ys all = absurd all
next R (x ∷ xs) zero y ys all = record { x = x; inside = omega arith; is = refl; one = all.0; later = all.1 }
next R (x ∷ xs) (suc i) y ys all =
    let n = next R xs i y ys all in
    record { x = n.x; inside = omega (arith, n.inside); is = n.is; one = n.one; later = n.later }

-- where nothing more was found, none is left
pub none : {A B : Type 0} (R : A → B → Type 0) (xs : List A) (i : ℕ) → AllZip R (drop i xs) [] → length xs ≤ i
none R [] i all = omega arith
none R (x ∷ xs) zero all = absurd all
none R (x ∷ xs) (suc i) all = let few = none R xs i all in omega (arith, few)

-- what is true of a text of which commits were found, or none
pub spelled : (text : List ℕ) (found : Result (Option (Vec Commit Global)) AllocError) (batch : Vec Commit Global)
    → found ≡ Ok (Some batch) → IsBatchOf text found → SpellsBatch text batch.items
spelled text found batch is of = subst (IsBatchOf text) is of

pub not_spelled : (text : List ℕ) (found : Result (Option (Vec Commit Global)) AllocError) → found ≡ Ok None
    → IsBatchOf text found → SpellsNoBatch text
not_spelled text found is of = subst (IsBatchOf text) is of

-- these texts are those of the first groups, and this was found of the others
pub record IsUnsealed (groups texts : List (Vec ℕ Global)) (found : List (Result (Option (Vec ℕ Global)) AllocError))
    : Type 0 where
  pub left : List (Vec ℕ Global)
  pub are : lists groups ≡ map sealed (lists texts) ++ lists left
  pub zip : AllZip (λ group text. IsTextOf group.items text) left found

-- a text more, or a damaged group behind them
record Head {A B : Type 0} (R : A → B → Type 0) (xs : List A) (y : B) (ys : List B) : Type 0 where
  x : A
  later : List A
  is : xs ≡ x ∷ later
  one : R x y
  more : AllZip R later ys

head : {A B : Type 0} (R : A → B → Type 0) (xs : List A) (y : B) (ys : List B) → AllZip R xs (y ∷ ys) → Head R xs y ys
head R [] y ys all = absurd all
head R (x ∷ xs) y ys all = record { x = x; later = xs; is = refl; one = all.0; more = all.1 }

pub unsealed_more : (groups texts pushed : List (Vec ℕ Global)) (found : Result (Option (Vec ℕ Global)) AllocError)
    (later : List (Result (Option (Vec ℕ Global)) AllocError)) (text : Vec ℕ Global)
    → IsUnsealed groups texts (found ∷ later) → found ≡ Ok (Some text) → pushed ≡ texts ++ text ∷ []
    → IsUnsealed groups pushed later
unsealed_more groups texts pushed found later text is found_is pushed_is =
    let h = head (λ group text. IsTextOf group.items text) is.left found later is.zip in
    let sealed_is : h.x.items ≡ sealed text.items = subst (IsTextOf h.x.items) found_is h.one in
    record {
      left = h.later;
      are = is.are ∙ ap (λ (gs : List (Vec ℕ Global)). map sealed (lists texts) ++ lists gs) h.is
          ∙ ap (λ (g : List ℕ). map sealed (lists texts) ++ g ∷ lists h.later) sealed_is
          ∙ sym (append_assoc (map sealed (lists texts)) (sealed text.items ∷ []) (lists h.later))
          ∙ ap (λ (gs : List (List ℕ)). gs ++ lists h.later) (sym (map_push sealed (lists texts) text.items)
          ∙ ap (map sealed) (sym (map_push (λ (v : Vec ℕ Global). v.items) texts text))
          ∙ ap (λ (ps : List (Vec ℕ Global)). map sealed (lists ps)) (sym pushed_is));
      zip = h.more;
    }

pub unsealed_damaged : (groups texts : List (Vec ℕ Global)) (found : Result (Option (Vec ℕ Global)) AllocError)
    (later : List (Result (Option (Vec ℕ Global)) AllocError)) → IsUnsealed groups texts (found ∷ later) → found ≡ Ok None
    → (before : List (List ℕ)) → AreNext (lists texts) true before (before ++ lists groups)
unsealed_damaged groups texts found later is found_is before =
    let h = head (λ group text. IsTextOf group.items text) is.left found later is.zip in
    record {
      rest = lists is.left;
      grown = ap (λ (gs : List (List ℕ)). before ++ gs) is.are ∙ sym (append_assoc before (map sealed (lists texts)) (lists is.left));
      whole = λ sound. absurd cc;
      broken = λ _. (h.x.items, lists h.later, ap lists h.is, subst (IsTextOf h.x.items) found_is h.one);
    }

no_more : {A B : Type 0} (R : A → B → Type 0) (xs : List A) → AllZip R xs [] → xs ≡ []
no_more R [] all = refl
no_more R (x ∷ xs) all = absurd all

no_lists : (groups : List (Vec ℕ Global)) → lists groups ≡ [] → groups ≡ []
no_lists [] is = refl
no_lists (group ∷ groups) is = absurd cc

pub unsealed_all : (groups texts : List (Vec ℕ Global)) → IsUnsealed groups texts []
    → (before : List (List ℕ)) → AreNext (lists texts) false before (before ++ lists groups)
unsealed_all groups texts is before =
    let none_left = no_more (λ group text. IsTextOf group.items text) is.left is.zip in
    record {
      rest = [];
      grown = ap (λ (gs : List (List ℕ)). before ++ gs)
          (is.are ∙ ap (λ (gs : List (Vec ℕ Global)). map sealed (lists texts) ++ lists gs) none_left)
          ∙ sym (append_assoc before (map sealed (lists texts)) []);
      whole = λ _. refl;
      broken = λ damaged. absurd cc;
    }

pub no_groups : (groups texts : List (Vec ℕ Global)) → IsUnsealed groups texts [] → texts ≡ [] → groups ≡ []
no_groups groups texts is none_is =
    let none_left = no_more (λ group text. IsTextOf group.items text) is.left is.zip in
    no_lists groups (is.are ∙ ap (λ (gs : List (Vec ℕ Global)). map sealed (lists texts) ++ lists gs) none_left
    ∙ ap (λ (ts : List (Vec ℕ Global)). map sealed (lists ts) ++ []) none_is)

-- at the beginning nothing was found
pub unsealed_first : (groups : List (Vec ℕ Global)) (found : List (Result (Option (Vec ℕ Global)) AllocError))
    → AllZip (λ group text. IsTextOf group.items text) groups found → IsUnsealed groups [] found
unsealed_first groups found all = record { left = groups; are = refl; zip = all }

-- Histories that begin one another, and lists by their places.
use Rattle.std.proofs.Common.{◌≡◌, ◌⊎◌, ℕ, zero, suc, ◌<◌, List, [], ◌∷◌, ◌++◌, length, refl}
use Rattle.std.proofs.Common.{ap, sym, subst, ◌∙◌, ⊎_elim, arith, append_assoc}
use Rattle.std.proofs.lemmas.List.{append-nil}
use Rattle.std.proofs.lemmas.Bool.Decides.{nat_tests}
use Rattle.std.specs.Prelude.{All}
use Rattle.std.proofs.lemmas.List.Elements.{All-nil, All-cons, All-head, All-tail}
use mathlib.Core.Option.{some, some-injective, some-ne-none}
use lib.ListN.{get_elem?}
use Rattle.ssb_base.specs.Base.{Tables}
use Rattle.row_store.specs.History.{CommitRecord, IsPrefix}
use Rattle.history.specs.Words.{IsAccepted}

pub prefix_self : (xs : List CommitRecord) → IsPrefix xs xs
prefix_self xs = record { rest = []; whole = sym (append-nil xs) }

pub prefix_nil : (xs : List CommitRecord) → IsPrefix [] xs
prefix_nil xs = record { rest = xs; whole = refl }

pub prefix_trans : (xs ys zs : List CommitRecord) → IsPrefix xs ys → IsPrefix ys zs → IsPrefix xs zs
prefix_trans xs ys zs p q = grind (arith, append_assoc)

pub prefix_one : (xs : List CommitRecord) (y : CommitRecord) → IsPrefix xs (xs ++ y ∷ [])
prefix_one xs y = record { rest = y ∷ []; whole = refl }

module _ {A : Type 0} where
  -- the last place of a list that grew by one
  pub at_end : (l : List A) (a b : A) (j : ℕ) → get_elem? (l ++ a ∷ []) j ≡ some b
      → ((j < length l) × (get_elem? l j ≡ some b)) ⊎ ((j ≡ length l) × (a ≡ b))
  at_end [] a b zero e = grind arith
  at_end [] a b (suc j) e = grind arith
  at_end (x ∷ xs) a b zero e = grind arith
  at_end (x ∷ xs) a b (suc j) e = grind (arith, ⊎_elim, at_end xs a b j e)

-- a commit is accepted only while the history is shorter than its limit
pub accepted_short : (base : Tables) (log : List CommitRecord) (commit : CommitRecord) → IsAccepted base log commit
    → length log < base.limits.commits
accepted_short base log commit accepted = grind (arith, nat_tests)

-- what holds of each element, by place
pub all_of : {A : Type 0} (P : A → Type 0) (xs : List A) → ((k : ℕ) (x : A) → get_elem? xs k ≡ some x → P x) → All P xs
all_of P [] f = All-nil P
all_of P (x ∷ xs) f = All-cons P x xs (f 0 x refl) (all_of P xs (λ k y at. f (suc k) y at))

pub each_of : {A : Type 0} (P : A → Type 0) (xs : List A) → All P xs → (k : ℕ) (x : A) → get_elem? xs k ≡ some x → P x
each_of P [] all k x at = absurd (some-ne-none x (sym at))
each_of P (y ∷ ys) all zero x at = subst P (some-injective y x at) (All-head P y ys all)
each_of P (y ∷ ys) all (suc k) x at = each_of P ys (All-tail P y ys all) k x at

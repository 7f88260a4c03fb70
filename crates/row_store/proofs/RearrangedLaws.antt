-- Lists that have each fact as often are rearrangements of one another.
use Rattle.std.proofs.Common.{ℕ, suc, ◌≡◌, ◌+◌, ◌<◌, Bool, true, false, cond, List, [], ◌∷◌, length, get_or, sym, refl}
use Rattle.std.proofs.Common.{ap, ◌∙◌, arith}
use Rattle.std.specs.Prelude.{IsPermutation, remove}
use Rattle.std.specs.Bool.{Decides}
use Rattle.std.specs.List.{count_by}
use Rattle.std.proofs.lemmas.List.Sorted.{sum_by-IsPermutation, IsPermutation-refl, IsPermutation-sym}
use Rattle.std.proofs.lemmas.List.Sorted.{IsPermutation-trans, IsPermutation-cons, IsPermutation-remove}
use Rattle.row_store.specs.State.{is_same, count_of, state_after}
use Rattle.row_store.specs.Laws.{StatesFollowCommits, EqualCountsRearrange, OneStateOneAnswer}
use Rattle.row_store.proofs.FactCountLaws.{count_cons, same_facts_are_equal, counts_tell_occurrences}
use Rattle.row_store.proofs.StateLaws.{state_after-state_of}

count-permutation : {X : Type 0} (p : X → Bool) (xs ys : List X) → IsPermutation xs ys → count_by p ys ≡ count_by p xs
count-permutation p xs ys moved = sum_by-IsPermutation (λ y. cond (p y) 1 0) xs ys moved

module _ {X : Type 0} (eq : X → X → Bool) (same : (a b : X) → Decides (eq a b) (a ≡ b)) where
  place_of : (x : X) (ys : List X) → 0 < count_by (eq x) ys → (i : ℕ) × (i < length ys) × (x ≡ get_or ys i x)
  place_of x [] some = absurd (omega (arith, some))
  place_of x (y ∷ ys) some =
      elim (eq x y) as (λ b. eq x y ≡ b → count_by (eq x) (y ∷ ys) ≡ cond b 1 0 + count_by (eq x) ys → (i : ℕ)
      × (i < length (y ∷ ys)) × (x ≡ get_or (y ∷ ys) i x)) [
        | true ↦ λ t _. (0, omega arith, (same x y).0 t)
        | false ↦ λ _ e. let rest = place_of x ys (omega (arith, some, e)) in
            (suc rest.0, omega (arith, rest.1), rest.2)
      ] refl (count_cons (eq x) y ys)

  permutation_from_counts : (xs ys : List X) → ((z : X) → count_by (eq z) xs ≡ count_by (eq z) ys) → IsPermutation xs ys
  permutation_from_counts [] [] counts = IsPermutation-refl []
  permutation_from_counts [] (y ∷ ys) counts =
      let itself : eq y y ≡ true = (same y y).1 refl in
      let one : count_by (eq y) (y ∷ ys) ≡ 1 + count_by (eq y) ys =
      count_cons (eq y) y ys ∙ ap (λ (b : Bool). cond b 1 0 + count_by (eq y) ys) itself in
      absurd (none _ (counts y ∙ one))
    where
      none : (n : ℕ) → 0 ≡ 1 + n → ⊥
      none n e = omega (arith, e)
  permutation_from_counts (x ∷ xs) ys counts =
      let itself : eq x x ≡ true = (same x x).1 refl in
      let one : count_by (eq x) (x ∷ xs) ≡ 1 + count_by (eq x) xs =
      count_cons (eq x) x xs ∙ ap (λ (b : Bool). cond b 1 0 + count_by (eq x) xs) itself in
      let place = place_of x ys (omega (arith, one, counts x)) in
      let moved = IsPermutation-remove ys place.0 x place.1 place.2 in
      IsPermutation-trans (x ∷ xs) (x ∷ remove ys place.0) ys
      (IsPermutation-cons x xs (remove ys place.0) (permutation_from_counts xs (remove ys place.0)
      (λ z. cancel (cond (eq z x) 1 0) (count_by (eq z) xs) (count_by (eq z) (remove ys place.0))
      (sym (count_cons (eq z) x xs) ∙ counts z ∙ sym (count-permutation (eq z) ys (x ∷ remove ys place.0) moved)
      ∙ count_cons (eq z) x (remove ys place.0)))))
      (IsPermutation-sym ys (x ∷ remove ys place.0) moved)
    where
      cancel : (c m n : ℕ) → c + m ≡ c + n → m ≡ n
      cancel c m n e = omega (arith, e)

pub equal_counts_rearrange : EqualCountsRearrange
equal_counts_rearrange facts others is = permutation_from_counts is_same same_facts_are_equal facts others (λ fact.
    sym (counts_tell_occurrences facts fact) ∙ ap (λ counts. count_of counts fact) is
    ∙ counts_tell_occurrences others fact)

pub one_state_one_answer : OneStateOneAnswer
one_state_one_answer state history other stands also = grind (arith, equal_counts_rearrange)

pub states_follow_commits : StatesFollowCommits
states_follow_commits state history commit stands = grind (arith, state_after-state_of)

-- The values of a column, each once, in order.
use Rattle.std.proofs.Common.{◌≡◌, ◌<◌, ◌≤◌, ◌+◌, ℕ, List, [], ◌∷◌, drop, take, get_or, length, map, refl, sym, ap, ◌∙◌}
use Rattle.std.specs.BTreeSet.{insert_key}
use Rattle.std.specs.declared.cmp.Ordering.{Ordering}
use Rattle.std.specs.declared.cmp.Ordering.TheVariants.{Less, Equal, Greater}
use Rattle.std.specs.Ordering.{is_eq, is_lt, match_ordering}
use Rattle.std.specs.Prelude.{if◌then◌else◌}
use Rattle.std.proofs.lemmas.List.{drop_more, take_all}
use Rattle.ssb_answers.specs.Ordered.{in_order, put}
use Rattle.ssb_questions.specs.Value.{value_cmp}
use Rattle.ssb_questions.specs.declared.value.Value.{Value}

-- a set's key is put in its place
pub inserted_is_put : {X : Type 0} (cmp : X → X → Ordering) (x : X) (xs : List X) → insert_key cmp xs x ≡ put cmp x xs
inserted_is_put cmp x [] = refl
inserted_is_put cmp x (y ∷ ys) =
    elim (cmp x y) as (λ r. match_ordering r (x ∷ y ∷ ys) (y ∷ ys) (y ∷ insert_key cmp ys x)
    ≡ (if is_lt r then x ∷ y ∷ ys else if is_eq r then y ∷ ys else y ∷ put cmp x ys)) [
      | Less ↦ refl
      | Equal ↦ refl
      | Greater ↦ ap (λ zs. y ∷ zs) (inserted_is_put cmp x ys)
    ]

-- those of the rows from one on, where those from the next one on are there
pub from_here : {X : Type 0} (f : X → Value) (rows : List X) (i : ℕ) (d : X) (value : Value) (old new : List Value)
    → i < length rows → value ≡ f (get_or rows i d) → old ≡ in_order value_cmp (map f (drop (i + 1) rows))
    → new ≡ insert_key value_cmp old value → new ≡ in_order value_cmp (map f (drop i rows))
from_here f rows i d value old new within is so_far added =
    added ∙ inserted_is_put value_cmp value old ∙ ap (put value_cmp value) so_far
    ∙ ap (λ v. put value_cmp v (in_order value_cmp (map f (drop (i + 1) rows)))) is
    ∙ ap (λ t. in_order value_cmp (map f t)) (sym (drop_more rows i d within))

pub all_taken : {X : Type 0} (n : ℕ) (xs : List X) → length xs ≤ n → xs ≡ take n xs
all_taken n xs few = sym (take_all n xs few)

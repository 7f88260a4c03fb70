use Rattle.std.proofs.Common.{arith}
-- What a change at one key does to the places.
use Rattle.std.proofs.Common.{◌≡◌, ℕ, true, false, cond, eqb, List, [], ◌∷◌, ◌++◌, slice_get, Option, Some, None}
use Rattle.std.proofs.Common.{sym, refl, ap, ◌∙◌, subst}
use Rattle.std.specs.Option.{option_map_or}
use Rattle.std.proofs.lemmas.Bool.{eqb-true, eq-eqb}
use Rattle.ssb_schema.specs.declared.line.LineFields.{LineFields}
use Rattle.ssb_schema.specs.declared.refresh.Action.{Action}
use Rattle.row_store.specs.Lines.{added_by, lines_of, lines_without}
use Rattle.row_store.specs.declared.place.OrderPlace.{OrderPlace}
use Rattle.row_store.specs.Keyed.{Sources, Located, Lies, IsAt, order_at}
use Rattle.row_store.proofs.CountedLaws.{HaveKey, lines_more, lines_other, lines_gone, lines_kept}

differs : (a b : ℕ) → eqb a b ≡ false → (a ≡ b → ⊥)
differs a b is e = let same : eqb a b ≡ true = eq-eqb a b e in absurd (cc)

moved : (sources : Sources) (a b : Option OrderPlace) (xs ys : List LineFields) → a ≡ b → xs ≡ ys → Lies sources b ys
    → Lies sources a xs
moved sources a b xs ys e f h = subst (λ (p : Option OrderPlace × List LineFields). Lies sources p.0 p.1)
    (λ i. (sym e i, sym f i)) h

-- the places after a change at one key
located_change : (sources : Sources) (f g : ℕ → Option OrderPlace) (before after : List LineFields) (key : ℕ)
    (place : Option OrderPlace) → ((q : ℕ) → g q ≡ cond (eqb key q) place (f q))
    → Lies sources place (lines_of key after) → ((q : ℕ) → (key ≡ q → ⊥) → lines_of q after ≡ lines_of q before)
    → Located sources f before → Located sources g after
located_change sources f g before after key place now at others each q = grind (arith, eqb, moved, eqb-true, differs)

module _ (sources : Sources) (f g : ℕ → Option OrderPlace) (lines : List LineFields) where
  -- an order more, whose key had no lines
  pub located_more : (order : List LineFields) (key : ℕ) (place : OrderPlace)
      → ((q : ℕ) → g q ≡ cond (eqb key q) (Some place) (f q)) → IsAt sources place order → HaveKey key order
      → lines_of key lines ≡ []
      → Located sources f lines → Located sources g (lines ++ order)
  located_more order key place now at alike none each =
      located_change sources f g lines (lines ++ order) key (Some place) now
      (subst (IsAt sources place) (sym (lines_more key lines order alike none)) at)
      (λ q apart. lines_other q key lines order alike apart) each

  pub located_withdrawn : (key : ℕ) → ((q : ℕ) → g q ≡ cond (eqb key q) None (f q)) → Located sources f lines
      → Located sources g (lines_without key lines)
  located_withdrawn key now each = grind (arith, located_change, lines_gone, lines_kept)

  pub located_amended : (order : List LineFields) (key : ℕ) (place : OrderPlace)
      → ((q : ℕ) → g q ≡ cond (eqb key q) (Some place) (f q)) → IsAt sources place order → HaveKey key order
      → Located sources f lines → Located sources g (lines_without key lines ++ order)
  located_amended order key place now at alike each =
      located_change sources f g lines (lines_without key lines ++ order) key (Some place) now
      (subst (IsAt sources place) (sym (lines_more key (lines_without key lines) order alike
      (lines_gone key key lines refl))) at)
      (λ q apart. lines_other q key (lines_without key lines) order alike apart ∙ lines_kept q key lines apart) each

-- what an action of these adds
pub order_at-action : (actions : List Action) (k : ℕ) (action : Action) → slice_get actions k ≡ Some action
    → order_at actions k ≡ added_by action
order_at-action actions k action here = ap (λ o. option_map_or added_by o []) here

pub moves : (f g : ℕ → Option OrderPlace) (sources : Sources) (lines : List LineFields) → ((q : ℕ) → g q ≡ f q)
    → Located sources f lines → Located sources g lines
moves f g sources lines same each q = subst (λ p. Lies sources p (lines_of q lines)) (sym (same q)) (each q)

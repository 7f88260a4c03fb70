-- Among rows with distinct keys at most one has a given key, so that a line makes at most one combination.
use Rattle.std.proofs.Common.{ℕ, ◌≡◌, suc, List, [], ◌∷◌, Bool, true, false, cond, Option, Some, sym, refl, ap, ◌∙◌}
use Rattle.std.proofs.Common.{arith}
use Rattle.std.specs.Prelude.{nat_eq, filter, slice_get}
use Rattle.std.specs.Option.{option_to_list}
use Rattle.std.specs.Cmp.{unsigned_Decides}
use Rattle.ssb_schema.specs.FirstFault.{AreDistinct}
use Rattle.ssb_base.specs.Base.{row_with, has_key_of}

nat_eq-differs : (x y : ℕ) → nat_eq x y ≡ false → nat_eq y x ≡ false
nat_eq-differs x y e = grind arith

module _ {R : Type 0} (key : R → ℕ) (k : ℕ) where
  filter_none : (rows : List R) → ((j : ℕ) (row : R) → slice_get rows j ≡ Some row → nat_eq (key row) k ≡ false)
      → filter (λ row. nat_eq (key row) k) rows ≡ []
  filter_none [] none = refl
  filter_none (r ∷ rows) none =
      ap (λ (b : Bool). cond b (r ∷ filter (λ row. nat_eq (key row) k) rows) (filter (λ row. nat_eq (key row) k) rows))
      (none 0 r refl)
      ∙ filter_none rows (λ j row e. none (suc j) row e)

  -- the rows that have the key are the first that has it
  pub filter_is_find : (rows : List R) → AreDistinct (has_key_of key) rows
      → filter (λ row. nat_eq (key row) k) rows ≡ option_to_list (row_with key rows k)
  filter_is_find [] distinct = refl
  filter_is_find (r ∷ rows) distinct =
      elim (nat_eq (key r) k) as (λ b. nat_eq (key r) k ≡ b
      → cond b (r ∷ filter (λ row. nat_eq (key row) k) rows) (filter (λ row. nat_eq (key row) k) rows)
      ≡ option_to_list (cond b (Some r) (row_with key rows k))) [
        | true ↦ λ e. ap (λ t. r ∷ t)
            (filter_none rows
            (λ j row at_j. nat_eq-differs k (key row)
            (ap (λ (n : ℕ). nat_eq n (key row)) (sym ((unsigned_Decides (key r) k).0 e))
            ∙ distinct 0 (suc j) r row (omega arith) refl at_j)))
        | false ↦ λ _. filter_is_find rows
            (λ i j earlier later below at_i at_j. distinct (suc i) (suc j) earlier later
            (omega (arith, below)) at_i at_j)
      ] refl

  -- so the rows that have the key and pass are the one that was found, if it passes
  pub passing_is : (p : R → Bool) (rows : List R) (found : Option R) → AreDistinct (has_key_of key) rows
      → found ≡ row_with key rows k
      → filter p (filter (λ row. nat_eq (key row) k) rows) ≡ filter p (option_to_list found)
  passing_is p rows found distinct e = ap (filter p) (filter_is_find rows distinct ∙ ap option_to_list (sym e))

-- A line's rows by position are those that it names.
use Rattle.std.proofs.Common.{◌||◌, ℕ, zero, suc, ◌≡◌, ◌<◌, List, [], ◌∷◌, Bool, true, cond, Option, Some}
use Rattle.std.proofs.Common.{length, refl, ap, ◌∙◌, arith}
use Rattle.std.specs.Prelude.{nat_eq, slice_get, unwrap_or}
use Rattle.std.specs.Option.{option_map_or}
use Rattle.std.specs.Cmp.{unsigned_Decides}
use Rattle.ssb_base.specs.Base.{row_with, has_key, has_key_of}
use Rattle.ssb_schema.specs.FirstFault.{AreDistinct}
use Rattle.fact_columns.specs.Places.{key_at}

module _ {R : Type 0} (key : R → ℕ) where
  -- the first row with a row's key is that row
  pub own_row : (rows : List R) (p : ℕ) (row : R) → AreDistinct (has_key_of key) rows → slice_get rows p ≡ Some row
      → row_with key rows (key row) ≡ Some row
  own_row [] p row distinct at = cc
  own_row (r ∷ rows) zero row distinct at =
      let same : r ≡ row = cc in
      let t : nat_eq (key r) (key row) ≡ true = (unsigned_Decides (key r) (key row)).1 (ap key same) in
      ap (λ (b : Bool). cond b (Some r) (row_with key rows (key row))) t ∙ at
  own_row (r ∷ rows) (suc p) row distinct at =
      ap (λ (b : Bool). cond b (Some r) (row_with key rows (key row))) (distinct 0 (suc p) r row (omega arith) refl at)
      ∙ own_row rows p row (λ i j earlier later below at_i at_j. distinct (suc i) (suc j) earlier later
      (omega (arith, below)) at_i at_j) at

  pub own_key : (rows : List R) (p : ℕ) (row : R) → slice_get rows p ≡ Some row → has_key key rows (key row) ≡ true
  own_key [] p row at = grind arith
  own_key (r ∷ rows) zero row at = grind arith
  own_key (r ∷ rows) (suc p) row at = grind (arith, own_key rows p row at)

  pub row_there : (rows : List R) (p : ℕ) → p < length rows → (row : R) × (slice_get rows p ≡ Some row)
  row_there [] p below = absurd (omega (arith, below))
  row_there (r ∷ rows) zero below = (r, refl)
  row_there (r ∷ rows) (suc p) below = row_there rows p (omega (arith, below))

  -- the row at a position is the one whose key is read back there
  pub named_row : (rows : List R) (p : ℕ) (row blank : R) → AreDistinct (has_key_of key) rows
      → slice_get rows p ≡ Some row → slice_get rows p ≡ Some (unwrap_or (row_with key rows (key_at key rows p)) blank)
  named_row rows p row blank distinct at = grind (arith, own_row)

  pub known_key : (rows : List R) (p : ℕ) → p < length rows → has_key key rows (key_at key rows p) ≡ true
  known_key rows p below =
      let there = row_there rows p below in
      let k : key_at key rows p ≡ key there.0 = ap (λ (o : Option R). option_map_or key o 0) there.1 in
      ap (has_key key rows) k ∙ own_key rows p there.0 there.1

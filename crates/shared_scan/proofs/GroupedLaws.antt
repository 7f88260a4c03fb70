use Rattle.std.proofs.Common.{arith}
-- One group column more is made ready.
use Rattle.std.proofs.Common.{ℕ, ◌≡◌, ◌*◌, List, [], ◌∷◌, ◌++◌, length, sym, ◌∙◌, subst}
use Rattle.std.proofs.Math.Nat.{mul_comm, mul_assoc, mul-one}
use Rattle.ssb_base.specs.Base.{Tables}
use Rattle.ssb_schema.specs.declared.column.Column.{Column}
use Rattle.ssb_questions.specs.declared.value.Value.{Value}
use Rattle.dimension_index.specs.Values.{values_of}
use Rattle.scan_kernel.specs.declared.masks.Masks.{Masks}
use Rattle.scan_kernel.specs.Groups.{size_of, counts_of}
use Rattle.shared_scan.specs.Numbering.{IsPreparedColumn}
use Rattle.shared_scan.specs.Prepared.{masks_in}
use Rattle.shared_scan.specs.Grouped.{ArePrepared}

-- how many groups there are with one column more
pub size_more : (columns : List (List Value)) (values : List Value)
    → size_of (counts_of (columns ++ values ∷ [])) ≡ length values * size_of (counts_of columns)
size_more [] values = grind arith
size_more (first ∷ columns) values = grind (arith, mul_assoc, mul_comm, size_more columns values)

module _ (base : Tables) (masks : Masks) (k : ℕ) (column : Column) (values : List Value) (part : List ℕ) where
  pub prepared_more : (groups : List Column) (columns : List (List Value)) (step : ℕ) (parts : List (List ℕ))
      → ArePrepared base masks k groups columns step parts
      → IsPreparedColumn (values_of base column) (masks_in column.table masks) k (step * size_of (counts_of columns))
      values part
      → ArePrepared base masks k (groups ++ column ∷ []) (columns ++ values ∷ []) step (parts ++ part ∷ [])
  prepared_more [] [] step [] h more =
      let P : ℕ → Type 0 = λ n. IsPreparedColumn (values_of base column) (masks_in column.table masks) k n values part
      in
      (subst P (mul-one step) more, tt)
  prepared_more [] [] step (q ∷ parts) h more = absurd h
  prepared_more [] (v ∷ columns) step parts h more = absurd h
  prepared_more (g ∷ groups) [] step parts h more = absurd h
  prepared_more (g ∷ groups) (v ∷ columns) step [] h more = absurd h
  prepared_more (g ∷ groups) (v ∷ columns) step (q ∷ parts) h more =
      let P : ℕ → Type 0 = λ n. IsPreparedColumn (values_of base column) (masks_in column.table masks) k n values part
      in (
        h.0,
        prepared_more groups columns (step * length v) parts h.1
            (subst P (sym (mul_assoc step (length v) (size_of (counts_of columns)))) more),
      )

-- The masks of a dimension's rows, from those of the values in its columns.
use Rattle.std.proofs.Common.{ℕ, ◌≡◌, ◌+◌, ◌-◌, ◌<◌, ◌≤◌, ◌^◌, Bool, true, List, [], length, map, get_or, take}
use Rattle.std.proofs.Common.{replicate, Some, None, bit_and, sym, refl, ap, subst, ◌∙◌, arith}
use Rattle.std.specs.Prelude.{◌&&◌, slice_get}
use Rattle.std.specs.List.{list_all}
use Rattle.std.proofs.lemmas.List.{get_or-map, get_or-replicate, length-map, length-replicate}
use Rattle.std.proofs.lemmas.List.Folds.{list_all_more}
use Rattle.std.proofs.lemmas.Option.{slice_get-get_or}
use Rattle.ssb_base.specs.Base.{Tables}
use Rattle.ssb_schema.specs.declared.column.Column.{Column}
use Rattle.ssb_schema.specs.declared.table.Table.{Table}
use Rattle.ssb_schema.specs.declared.table.Table.TheVariants as table
use Rattle.ssb_questions.specs.declared.cond.Test.{Test}
use Rattle.ssb_questions.specs.declared.plan.Plan.{Plan}
use Rattle.ssb_questions.specs.declared.value.Value.{Value}
use Rattle.ssb_questions.specs.declared.value.Value.TheVariants.{Number}
use Rattle.ssb_answers.specs.RowValues.{pass}
use Rattle.dimension_index.specs.Keys.{keys_of}
use Rattle.dimension_index.specs.Values.{values_at}
use Rattle.dimension_index.specs.Codes.{distinct, codes_of}
use Rattle.scan_kernel.specs.Masks.{IsMask}
use Rattle.scan_kernel.proofs.MaskLaws.{mask_and}
use Rattle.shared_scan.specs.Tests.{tests_of, passes_at, value_of_row, CoverTests}
use Rattle.shared_scan.specs.Masking.{AreCodeMasks, AreRowMasks, TellDimension}
use Rattle.shared_scan.proofs.DistinctLaws.{code_reads}
use Rattle.shared_scan.proofs.MaskingLaws.{mask_same, mask_full}
use Rattle.shared_scan.proofs.TestLaws.{pass_by_places, row_reads}

-- every column has a value for each key
pub values_are_rows : (base : Tables) (t : Table) (place : ℕ)
    → length (values_at base t place) ≡ length (keys_of base t)
values_are_rows base table.Customer place = grind (arith, length-map)
values_are_rows base table.Supplier place = grind (arith, length-map)
values_are_rows base table.Part place = grind (arith, length-map)
values_are_rows base table.Date place = grind (arith, length-map)
values_are_rows base table.Lineorder place = grind arith

-- the mask of a row's code is that of its value
code_mask : (plans : List Plan) (column : Column) (values : List Value) (masks : List ℕ)
    → AreCodeMasks column plans (distinct values) masks → (p : ℕ) → p < length values
    → IsMask (λ plan. passes_at (tests_of column.table plan) column.place (get_or values p (Number 0))) plans
    (get_or masks (get_or (codes_of values) p 0) 0)
code_mask plans column values masks are p below = grind (arith, get_or-map, code_reads, slice_get-get_or)

module _ (base : Tables) (t : Table) (plans : List Plan) where
  -- before the first column, every row passes
  pub row_masks_start : length plans ≤ 16 → AreRowMasks base t plans []
      (replicate (length (keys_of base t)) (2 ^ 16 - 1))
  row_masks_start few = record {
    len = length-replicate (length (keys_of base t)) (2 ^ 16 - 1);
    each = λ p below. subst (IsMask (λ plan. true) plans)
        (sym (get_or-replicate (length (keys_of base t)) p (2 ^ 16 - 1) 0 below))
        (mask_full (λ plan. true) plans few (λ k plan at. refl));
  }

  -- one column more
  pub row_masks_more : (places : List ℕ) (i place : ℕ) (old of_codes new : List ℕ) → i < length places
      → place ≡ get_or places i place
      → AreRowMasks base t plans (take i places) old
      → AreCodeMasks (record { table = t; place = place }) plans (distinct (values_at base t place)) of_codes
      → length new ≡ length old
      → ((p : ℕ) → p < length old → get_or new p 0 ≡ bit_and (get_or old p 0)
      (get_or of_codes (get_or (codes_of (values_at base t place)) p 0) 0))
      → AreRowMasks base t plans (take (i + 1) places) new
  row_masks_more places i place old of_codes new below is was are len each = record {
    len = len ∙ was.len;
    each = λ p row.
        let f : Plan → ℕ → Bool = λ plan place. passes_at (tests_of t plan) place (value_of_row base t p place) in
        let within : p < length (values_at base t place) = omega (arith, row, values_are_rows base t place) in
        let column : Column = record { table = t; place = place } in
        let joined = mask_and (λ plan. list_all (f plan) (take i places)) (λ plan. f plan place) plans _ _
        (was.each p row) (code_mask plans column (values_at base t place) of_codes are p within) in
        let mask = mask_same _ (λ plan. list_all (f plan) (take (i + 1) places)) plans _
        (λ k plan at. ap (λ (n : ℕ). list_all (f plan) (take i places) && f plan n) is
        ∙ sym (list_all_more (f plan) places i place below)) joined in
        subst (IsMask (λ plan. list_all (f plan) (take (i + 1) places)) plans)
        (sym (each p (omega (arith, row, was.len)))) mask;
  }

  -- where no column is tested, every row passes
  pub untested : length plans ≤ 16 → CoverTests t plans [] → TellDimension base t plans None
  untested few covered = record {
    tell = λ p row. mask_full (λ plan. pass (tests_of t plan) (value_of_row base t p)) plans few
        (λ k plan at. sym (pass_by_places (value_of_row base t p) (tests_of t plan) [] (covered k plan at)));
    cover = λ p row. tt;
  }

  -- the masks of all tested columns tell which plans take the rows
  pub row_masks_tell : (places masks : List ℕ) → CoverTests t plans places → AreRowMasks base t plans places masks
      → TellDimension base t plans (Some masks)
  row_masks_tell places masks covered are = record {
    tell = λ p row. mask_same _ _ plans _ (λ k plan at. pass_by_places (value_of_row base t p) (tests_of t plan) places
        (covered k plan at)) (are.each p row);
    cover = λ p row. omega (arith, row, are.len);
  }

-- what masks by columns tell, they tell of a row
pub tell_row : {R : Type 0} (value : ℕ → R → Value) (rows : List R) (tests : Plan → List Test) (plans : List Plan)
    (p mask : ℕ) (row : R) → slice_get rows p ≡ Some row
    → IsMask (λ plan. pass (tests plan) (λ place. get_or (map (value place) rows) p (Number 0))) plans mask
    → IsMask (λ plan. pass (tests plan) (λ place. value place row)) plans mask
tell_row value rows tests plans p mask row at h =
    subst (λ (v : ℕ → Value). IsMask (λ plan. pass (tests plan) v) plans mask)
    (λ i place. row_reads value rows p row at place i) h

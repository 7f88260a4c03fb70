-- Numbers of codes make the parts of a group column.
use Rattle.std.proofs.Common.{ℕ, ◌≡◌, ◌≢◌, ◌*◌, ◌<◌, List, length, map, get_or, Option, Some, sym, ap, ◌∙◌, arith}
use Rattle.std.specs.Prelude.{slice_get}
use Rattle.std.specs.Int.{bit_at}
use Rattle.std.proofs.lemmas.List.{get_or-map, length-map}
use Rattle.std.proofs.lemmas.Option.{get_or_from_slice_get, slice_get-get_or, slice_get_within}
use Rattle.ssb_questions.specs.declared.value.Value.{Value}
use Rattle.ssb_questions.specs.declared.value.Value.TheVariants.{Number}
use Rattle.dimension_index.specs.Codes.{distinct, codes_of}
use Rattle.scan_kernel.specs.Places.{mask_in}
use Rattle.scan_kernel.specs.Groups.{AreApart, code_in}
use Rattle.shared_scan.specs.Numbering.{AreNumbered, IsPreparedColumn, IsTaken, IsTakenValue}
use Rattle.shared_scan.proofs.DistinctLaws.{code_is, distinct_apart, code_reads}

module _ (rows : List Value) (masks : Option (List ℕ)) (k step : ℕ) (numbers kept parts : List ℕ)
    (numbered : AreNumbered numbers kept) (len : length numbers ≡ length (distinct rows))
    (parts_len : length parts ≡ length numbers)
    (each : (p : ℕ) → p < length rows → bit_at (mask_in masks p) k ≡ 1
    → get_or numbers (get_or (codes_of rows) p 0) 0 ≢ 4294967295)
    (times : (code : ℕ) → code < length numbers → get_or numbers code 0 ≢ 4294967295
    → get_or parts code 0 ≡ get_or numbers code 0 * step)
    (taken : (n : ℕ) → n < length kept → IsTaken (codes_of rows) masks k (get_or kept n 0)) where
  abbrev pub kept_values : List Value
  kept_values = map (λ code. get_or (distinct rows) code (Number 0)) kept

  value_at : (n : ℕ) → n < length kept → get_or kept_values n (Number 0) ≡ get_or (distinct rows) (get_or kept n 0)
      (Number 0)
  value_at n below = get_or-map (λ code. get_or (distinct rows) code (Number 0)) kept n 0 (Number 0) below

  kept_apart : AreApart kept_values
  kept_apart i j i_below j_below same = grind (arith, length-map, distinct_apart, value_at)

  -- the value of a code that is kept is that of a row that the question takes
  kept_taken : (n : ℕ) (value : Value) → slice_get kept_values n ≡ Some value → IsTakenValue rows masks k value
  kept_taken n value at =
      let inside : n < length kept = omega (
        arith,
        slice_get_within kept_values n value at,
        length-map kept (λ code. get_or (distinct rows) code (Number 0)),
      ) in
      let row = taken n inside in
      let there : row.row < length rows = omega (arith, row.there, length-map rows (code_in (distinct rows))) in
      let own : Value = get_or rows row.row (Number 0) in
      let at_row : slice_get rows row.row ≡ Some own = slice_get-get_or rows row.row (Number 0) there in
      let code : code_in (distinct rows) own ≡ get_or kept n 0 =
      sym (get_or-map (code_in (distinct rows)) rows row.row (Number 0) 0 there) ∙ row.own in
      let read : get_or (distinct rows) (get_or kept n 0) (Number 0) ≡ own =
      ap (λ (c : ℕ). get_or (distinct rows) c (Number 0)) (sym code)
      ∙ get_or_from_slice_get (distinct rows) (code_in (distinct rows) own) own (Number 0)
      (code_reads rows row.row own at_row) in
      let same : own ≡ value = sym read ∙ sym (value_at n inside)
      ∙ get_or_from_slice_get kept_values n value (Number 0) at in
      record { row = row.row; own = at_row ∙ ap Some same; taken = row.taken }

  pub is_prepared : IsPreparedColumn rows masks k step kept_values parts
  is_prepared = record {
    apart = kept_apart;
    len = parts_len ∙ len;
    adds = λ p value at bit.
        let p_in : p < length rows = slice_get_within rows p value at in
        let read = code_reads rows p value at in
        let own : get_or (codes_of rows) p 0 ≡ code_in (distinct rows) value =
        get_or-map (code_in (distinct rows)) rows p (Number 0) 0 p_in
        ∙ ap (code_in (distinct rows)) (get_or_from_slice_get rows p value (Number 0) at) in
        let code = code_in (distinct rows) value in
        let code_below : code < length numbers = omega (arith, slice_get_within (distinct rows) code value read, len) in
        let some : get_or numbers code 0 ≢ 4294967295 =
        λ e. each p p_in bit (ap (λ (c : ℕ). get_or numbers c 0) own ∙ e) in
        let there = numbered.there code code_below some in
        let n = get_or numbers code 0 in
        let value_is : get_or kept_values n (Number 0) ≡ value =
        value_at n there.0 ∙ ap (λ (c : ℕ). get_or (distinct rows) c (Number 0)) there.1
        ∙ get_or_from_slice_get (distinct rows) code value (Number 0) read in
        let n_in : n < length kept_values = omega (
          arith,
          there.0,
          length-map kept (λ c. get_or (distinct rows) c (Number 0)),
        ) in
        let here : slice_get kept_values n ≡ Some value =
        slice_get-get_or kept_values n (Number 0) n_in ∙ ap Some value_is in
        let is : code_in kept_values value ≡ n = code_is kept_values n value kept_apart here in (
          ap (slice_get kept_values) is ∙ here,
          ap (λ (c : ℕ). get_or parts c 0) own ∙ times code code_below some
              ∙ ap (λ (m : ℕ). m * step) (sym is),
        );
    only = kept_taken;
  }

use Rattle.std.proofs.Common.{ℕ, ◌≡◌, ◌≢◌, ◌*◌, ◌^◌, ◌<◌, ◌≤◌, List, length, map, get_or, sym, ap, ◌∙◌, arith, subst}
use Rattle.std.specs.Int.{bit_at}
use Rattle.std.proofs.Math.Nat.{mul-le-mul}
use Rattle.std.proofs.lemmas.List.{get_or_default, length-map}
use Rattle.ssb_questions.specs.declared.value.Value.{Value}
use Rattle.ssb_questions.specs.declared.value.Value.TheVariants.{Number}
use Rattle.scan_kernel.specs.Places.{mask_in}
use Rattle.scan_kernel.specs.Groups.{code_in}
use Rattle.shared_scan.specs.Numbering.{IsPreparedColumn, IsTaken}
use Rattle.shared_scan.proofs.PartLaws.{is_prepared}
use Rattle.dimension_index.specs.Values.{values_of}
use Rattle.dimension_index.specs.Codes.{distinct, codes_of}
use Rattle.shared_scan.proofs.DistinctLaws.{codes_within, distinct_few, distinct_used}
use Rattle.shared_scan.proofs.group_columns.prepare.Goals as goal

pub number_codes-requires-clause-within : goal.number_codes-requires-clause-within
number_codes-requires-clause-within c = λ k d below.
    let rows = values_of c.args.index.now c.args.column in
    rw (c.codes_of-codes.ensures, c.codes.ensures) (codes_within rows k d (rw c.codes_of-codes.ensures at below))

pub number_codes-requires-clause-few : goal.number_codes-requires-clause-few
number_codes-requires-clause-few c = omega (
  arith,
  c.codes.ensures,
  distinct_few (values_of c.args.index.now c.args.column),
  c.requires.few,
)

pub overflow_cast-count : goal.overflow_cast-count
overflow_cast-count c =
    omega (
      arith,
      c.len-count.ensures,
      c.in_ok-numbering.ensures.few,
      c.codes.ensures,
      distinct_few (values_of c.args.index.now c.args.column),
      c.requires.few,
    )

pub parts_of-requires-clause-fits : goal.parts_of-requires-clause-fits
parts_of-requires-clause-fits c =
    let count : c.len-count.result ≤ 2 ^ 20 = omega (
      arith,
      c.len-count.ensures,
      c.in_ok-numbering.ensures.few,
      c.codes.ensures,
      distinct_few (values_of c.args.index.now c.args.column),
      c.requires.few,
    ) in
    omega (arith, mul-le-mul count c.requires.step)

pub values_at-requires : goal.values_at-requires
values_at-requires c = λ k d below.
    let kept = c.in_ok-numbering.numbering.kept.items in
    let inside : k < length kept = omega (arith, below, ap length c.deref.ensures.value) in
    let back = c.in_ok-numbering.ensures.numbered.back k inside in
    let is : get_or c.deref.result.now k d ≡ get_or kept k 0 =
    ap (λ (codes : List ℕ). get_or codes k d) c.deref.ensures.value ∙ get_or_default kept k d 0 inside in
    omega (
      arith,
      is,
      back.0,
      c.in_ok-numbering.ensures.len,
      c.in_ok-numbering.numbering.numbers.ok,
      c.codes.ensures,
      ap length c.dictionary.ensures,
    )

pub returns-clause-few : goal.returns-clause-few
returns-clause-few c =
    let value : ℕ → Value = λ code. get_or c.dictionary.result.now code (Number 0) in
    let count : length c.in_ok-values.values ≡ length c.in_ok-numbering.numbering.kept.items =
    ap length c.in_ok-values.ensures ∙ length-map c.deref.result.now value ∙ ap length c.deref.ensures.value in
    omega (
      arith,
      count,
      c.in_ok-numbering.numbering.kept.ok,
      c.in_ok-numbering.ensures.few,
      c.codes.ensures,
      distinct_few (values_of c.args.index.now c.args.column),
      c.requires.few,
    )

pub returns-clause-prepared : goal.returns-clause-prepared
returns-clause-prepared c =
    let rows = values_of c.args.index.now c.args.column in
    let masks = c.args.masks.now in
    let k = c.args.question in
    let step = c.args.step in
    let numbers = c.in_ok-numbering.numbering.numbers.items in
    let kept = c.in_ok-numbering.numbering.kept.items in
    let new = c.in_ok-parts.parts.items in
    let len : length numbers ≡ length (distinct rows) =
    omega (arith, c.in_ok-numbering.ensures.len, c.codes.ensures, c.in_ok-numbering.numbering.numbers.ok) in
    let new_len : length new ≡ length numbers = c.in_ok-parts.ensures.len ∙ ap length c.deref-2.ensures.value in
    let each = rw c.codes_of-codes.ensures at c.in_ok-numbering.ensures.each in
    let each_row : (p : ℕ) → p < length rows → bit_at (mask_in masks p) k ≡ 1
    → get_or numbers (get_or (codes_of rows) p 0) 0 ≢ 4294967295 =
    λ p below bit. each p (omega (arith, below, length-map rows (code_in (distinct rows)))) bit in
    let times : (code : ℕ) → code < length numbers → get_or numbers code 0 ≢ 4294967295
    → get_or new code 0 ≡ get_or numbers code 0 * step =
    rw c.deref-2.ensures.value at c.in_ok-parts.ensures.each in
    let only = rw c.codes_of-codes.ensures at c.in_ok-numbering.ensures.only in
    let taken : (n : ℕ) → n < length kept → IsTaken (codes_of rows) masks k (get_or kept n 0) = λ n below.
    only n below (distinct_used rows (get_or kept n 0)
    (omega (arith, (c.in_ok-numbering.ensures.numbered.back n below).0, len))) in
    let made = is_prepared rows masks k step numbers kept new c.in_ok-numbering.ensures.numbered len new_len each_row
    times taken in
    let values : c.in_ok-values.values ≡ map (λ code. get_or (distinct rows) code (Number 0)) kept =
    rw (c.dictionary.ensures, c.deref.ensures.value) at c.in_ok-values.ensures in
    let P : List Value → Type 0 = λ vs. IsPreparedColumn rows masks k step vs new in
    subst P (sym values) made

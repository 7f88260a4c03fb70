use Rattle.std.proofs.Common.{ℕ, ◌≡◌, ◌+◌, ◌*◌, ◌/◌, ◌%◌, ◌&&◌, List, length, get_or, subst, sym, ap, ◌∙◌, arith}
use Rattle.std.proofs.lemmas.List.{length-map}
use Rattle.std.proofs.lemmas.Option.{slice_get_within}
use Rattle.ssb_base.specs.Base.{customer_key, supplier_key, part_key, date_key}
use Rattle.ssb_answers.specs.RowValues.{customer_value, supplier_value, part_value, date_value, is_within}
use Rattle.scan_kernel.specs.Masks.{IsMask}
use Rattle.shared_scan.proofs.RowMaskLaws.{tell_row}
use Rattle.shared_scan.proofs.batch_masks.batch_masks.Goals as goal

pub returns-clause-tell : goal.returns-clause-tell
returns-clause-tell c =
    let plans = c.args.plans.now in
    let terms = c.in_ok-terms.terms.items in
    let rows = c.args.index.now.dimensions in
    record {
      customers_tell = λ p row at. tell_row customer_value rows.customers (λ plan. plan.customers) plans p _ row at
          (c.in_ok-customers.ensures.tell p (omega (
            arith,
            slice_get_within rows.customers p row at,
            length-map rows.customers customer_key,
          )));
      suppliers_tell = λ p row at. tell_row supplier_value rows.suppliers (λ plan. plan.suppliers) plans p _ row at
          (c.in_ok-suppliers.ensures.tell p (omega (
            arith,
            slice_get_within rows.suppliers p row at,
            length-map rows.suppliers supplier_key,
          )));
      parts_tell = λ p row at. tell_row part_value rows.parts (λ plan. plan.parts) plans p _ row at
          (c.in_ok-parts.ensures.tell p (omega (
            arith,
            slice_get_within rows.parts p row at,
            length-map rows.parts part_key,
          )));
      dates_tell = λ p row at. tell_row date_value rows.dates (λ plan. plan.dates) plans p _ row at
          (c.in_ok-dates.ensures.tell p (omega (
            arith,
            slice_get_within rows.dates p row at,
            length-map rows.dates date_key,
          )));
      terms_tell = λ quantity discount some most few.
          let code = quantity * 16 + discount in
          let first : code / 16 ≡ quantity = omega arith in
          let second : code % 16 ≡ discount = omega arith in
          let P : ℕ → Type 0 = λ q. IsMask (λ plan. is_within plan.quantity q && is_within plan.discount (code % 16))
          plans (get_or terms code 0) in
          let R : ℕ → Type 0 = λ d. IsMask (λ plan. is_within plan.quantity quantity && is_within plan.discount d) plans
          (get_or terms code 0) in
          let mask = subst R second (subst P first (c.in_ok-terms.ensures.live code (omega (arith, some))
          (omega (arith, most, few)))) in
          subst (λ (ms : List ℕ). IsMask (λ plan. is_within plan.quantity quantity && is_within plan.discount discount)
          plans (get_or ms code 0)) (sym c.from_vec.ensures) mask;
      free_is_none = λ discount few. ap (λ (ms : List ℕ). get_or ms discount 0) c.from_vec.ensures
          ∙ c.in_ok-terms.ensures.free discount few;
    }

pub returns-clause-cover : goal.returns-clause-cover
returns-clause-cover c =
    let rows = c.args.index.now.dimensions in
    record {
      customer_rows = λ p below. c.in_ok-customers.ensures.cover p
          (omega (arith, below, length-map rows.customers customer_key));
      supplier_rows = λ p below. c.in_ok-suppliers.ensures.cover p
          (omega (arith, below, length-map rows.suppliers supplier_key));
      part_rows = λ p below. c.in_ok-parts.ensures.cover p (omega (arith, below, length-map rows.parts part_key));
      date_rows = λ p below. c.in_ok-dates.ensures.cover p (omega (arith, below, length-map rows.dates date_key));
      codes = ap length c.from_vec.ensures ∙ c.in_ok-terms.ensures.len;
    }

use Rattle.std.proofs.Common.{ℕ, ◌≡◌, ◌≤◌, ◌*◌, ◌^◌, List, take, get_or, length, sym, ap, ◌∙◌, arith}
use Rattle.std.proofs.Math.Nat.{one-mul, mul-le-mul}
use Rattle.std.proofs.lemmas.List.{take_more}
use Rattle.ssb_schema.specs.declared.column.Column.{Column}
use Rattle.ssb_schema.specs.declared.table.Table.TheVariants.{Customer}
use Rattle.ssb_questions.specs.declared.value.Value.{Value}
use Rattle.dimension_index.specs.Values.{values_of}
use Rattle.scan_kernel.specs.Groups.{size_of, counts_of}
use Rattle.shared_scan.specs.Numbering.{IsPreparedColumn}
use Rattle.shared_scan.specs.Prepared.{masks_in}
use Rattle.shared_scan.proofs.GroupedLaws.{prepared_more, size_more}
use Rattle.shared_scan.proofs.groups.prepare_groups.Goals as goal

pub prepare-requires-clause-step : goal.prepare-requires-clause-step
prepare-requires-clause-step c = c.loop-column.invariant.three (omega (arith, c.loop-column-test.true, c.requires.four))

pub loop-column-preserved : goal.loop-column-preserved
loop-column-preserved c =
    let base = c.args.index.now in
    let masks = c.args.masks.now in
    let question = c.args.question in
    let any : Column = record { table = Customer; place = 0 } in
    let i = c.loop-column.column-index in
    let column = get_or c.args.columns.now i any in
    let columns = c.loop-column.values.items in
    let parts = c.loop-column.parts.items in
    let made = c.in_ok-made.made in
    let old = c.loop-column.size in
    let step : old ≡ 1 * size_of (counts_of columns) =
    c.loop-column.invariant.size ∙ sym (one-mul (size_of (counts_of columns))) in
    let here : IsPreparedColumn (values_of base column) (masks_in column.table masks) question
    (1 * size_of (counts_of columns)) made.values made.parts.items =
    rw (c.masks_of-of_table.ensures, step) at c.in_ok-made.ensures.prepared in
    let all = prepared_more base masks question column made.values made.parts.items (take i c.args.columns.now) columns
    1 parts c.loop-column.invariant.prepared here in
    let count : c.len.result ≡ length made.values = c.len.ensures in
    let few : c.len.result ≤ 2 ^ 20 = omega (arith, count, c.in_ok-made.ensures.few) in
    record {
      prepared = rw (
        take_more c.args.columns.now i any c.loop-column-test.true,
        c.in_ok-push.ensures.items,
        c.in_ok-push-2.ensures.items,
        c.from_vec.ensures,
      ) all;
      size = ap (λ (n : ℕ). n * old) count ∙ ap (λ (n : ℕ). length made.values * n) c.loop-column.invariant.size
          ∙ sym (size_more columns made.values) ∙ ap (λ (cs : List (List Value)). size_of (counts_of cs))
          (sym c.in_ok-push.ensures.items);
      none = λ h. absurd (omega (arith, h));
      one = λ h. omega (arith, mul-le-mul few (c.loop-column.invariant.none (omega (arith, h))));
      two = λ h. omega (arith, mul-le-mul few (c.loop-column.invariant.one (omega (arith, h))));
      three = λ h. omega (arith, mul-le-mul few (c.loop-column.invariant.two (omega (arith, h))));
    }

use Rattle.std.proofs.Common.{ℕ, ◌≡◌, ◌+◌, ◌-◌, ◌<◌, ◌^◌, List, [], length, get_or, take, replicate, sym, ap, subst}
use Rattle.std.proofs.Common.{◌∙◌, arith}
use Rattle.std.proofs.lemmas.List.{get_or_default, with_items_is}
use Rattle.ssb_schema.specs.declared.column.Column.{Column}
use Rattle.ssb_questions.specs.declared.value.Value.{Value}
use Rattle.dimension_index.specs.Keys.{keys_of}
use Rattle.dimension_index.specs.Values.{values_of}
use Rattle.dimension_index.specs.Codes.{distinct}
use Rattle.shared_scan.specs.Masking.{AreCodeMasks, AreRowMasks}
use Rattle.shared_scan.proofs.DistinctLaws.{codes_within}
use Rattle.shared_scan.proofs.RowMaskLaws.{row_masks_start, row_masks_more}
use Rattle.shared_scan.proofs.masking.row_masks.Goals as goal

pub loop-place-init : goal.loop-place-init
loop-place-init c =
    let base = c.args.index.now in
    let rows = length (keys_of base c.args.table) in
    let items : c.in_ok-masks.masks.items ≡ replicate rows (2 ^ 16 - 1) =
    c.in_ok-masks.ensures.items_if_clones_equal (λ y same. same)
    ∙ ap (λ (n : ℕ). replicate n (2 ^ 16 - 1)) c.positions.ensures in
    subst (AreRowMasks base c.args.table c.args.plans.now []) (sym items)
    (row_masks_start base c.args.table c.args.plans.now c.requires.few)

pub narrow-requires-clause-within : goal.narrow-requires-clause-within
narrow-requires-clause-within c = λ k d below.
    let column : Column = record { table = c.args.table; place = get_or c.args.places.now c.loop-place.place-index 0 }
    in
    let values = values_of c.args.index.now column in
    let within : get_or c.codes_of.result.now k d < length (distinct values) =
    rw c.codes_of.ensures (codes_within values k d (rw c.codes_of.ensures at below)) in
    omega (arith, within, ap length c.deref.ensures.value, c.in_ok-of_codes.ensures.len, ap length c.dictionary.ensures)

pub loop-place-preserved : goal.loop-place-preserved
loop-place-preserved c =
    let base = c.args.index.now in
    let t = c.args.table in
    let plans = c.args.plans.now in
    let places = c.args.places.now in
    let i = c.loop-place.place-index in
    let place = get_or places i 0 in
    let column : Column = record { table = t; place = place } in
    let of_codes = c.in_ok-of_codes.of_codes.items in
    let new = c.narrow.new.masks in
    let old = c.loop-place.masks in
    let are : AreCodeMasks column plans (distinct (values_of base column)) of_codes =
    subst (λ (values : List Value). AreCodeMasks column plans values of_codes) c.dictionary.ensures
    c.in_ok-of_codes.ensures in
    let len : length new ≡ length old.items = c.narrow.ensures.len ∙ ap length c.deref_mut.ensures.value in
    let each = rw (c.deref_mut.ensures.value, c.deref.ensures.value, c.codes_of.ensures) at c.narrow.ensures.each in
    let masks = row_masks_more base t plans places i place old.items of_codes new c.loop-place-test.true
    (get_or_default places i 0 place c.loop-place-test.true) c.loop-place.invariant are len each in
    subst (AreRowMasks base t plans (take (i + 1) places)) (sym (with_items_is old new (omega (arith, len, old.ok))))
    masks

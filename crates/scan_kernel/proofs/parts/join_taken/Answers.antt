use Rattle.std.proofs.Common.{◌≡◌, ℕ, List, ◌++◌, length, arith, ap, subst, sym, ◌∙◌}
use Rattle.std.proofs.lemmas.Grind.{flat_map-append}
use Rattle.std.proofs.lemmas.List.{with_items_is}
use Rattle.scan_kernel.specs.Parts.{MergesBatch, part_places, places_of_parts}
use Rattle.scan_kernel.specs.Taken.{IsOfPartsOk}
use Rattle.scan_kernel.specs.Totals.{AreBatchTotals}
use Rattle.scan_kernel.proofs.PartLaws.{batch_merged, merge_sizes, no_places}
use Rattle.scan_kernel.proofs.parts.join_taken.Goals as goal

pub loop-taker-init : goal.loop-taker-init
loop-taker-init c =
    let lines = c.args.input.lines.now in
    let all = c.in_ok-totals.totals.items in
    subst (λ parts. AreBatchTotals lines c.args.input.masks.now c.args.input.groupings.now
    (places_of_parts (length lines.customer.now) parts) all) (sym c.new-parts.ensures.items)
    (no_places lines c.args.input.masks.now c.args.input.groupings.now all c.in_ok-totals.ensures.all
    c.in_ok-totals.ensures.each)

pub merge_batch-requires-clause-all : goal.merge_batch-requires-clause-all
merge_batch-requires-clause-all c =
    let of_parts = IsOfPartsOk c.args.input.lines.now c.args.input.masks.now c.args.input.groupings.now in
    let own = subst of_parts (c.in-Ok.is)
    (subst of_parts (sym c.taker-item.is) (c.requires.takers c.loop-taker.taker-index c.taker-item.result
    c.loop-taker-test.true)) in
    rw (c.deref-in-Ok.ensures.value, c.deref_mut.ensures.value) (own.all ∙ sym c.loop-taker.invariant.all)

pub merge_batch-requires-clause-sizes : goal.merge_batch-requires-clause-sizes
merge_batch-requires-clause-sizes c =
    let lines = c.args.input.lines.now in
    let masks = c.args.input.masks.now in
    let groupings = c.args.input.groupings.now in
    let of_parts = IsOfPartsOk lines masks groupings in
    let own = subst of_parts (c.in-Ok.is)
    (subst of_parts (sym c.taker-item.is) (c.requires.takers c.loop-taker.taker-index c.taker-item.result
    c.loop-taker-test.true)) in
    rw (c.deref-in-Ok.ensures.value, c.deref_mut.ensures.value)
    (merge_sizes lines masks groupings _ _ c.loop-taker.totals.items c.in-Ok.taken.totals.items c.loop-taker.invariant
    own)

pub loop-taker-preserved : goal.loop-taker-preserved
loop-taker-preserved c =
    let lines = c.args.input.lines.now in
    let masks = c.args.input.masks.now in
    let groupings = c.args.input.groupings.now in
    let n = length lines.customer.now in
    let of_parts = IsOfPartsOk lines masks groupings in
    let own = subst of_parts (c.in-Ok.is)
    (subst of_parts (sym c.taker-item.is) (c.requires.takers c.loop-taker.taker-index c.taker-item.result
    c.loop-taker-test.true)) in
    let parts = c.loop-taker.parts.items in
    let theirs = c.in-Ok.taken.parts.items in
    let mid = c.loop-taker.totals in
    let new = c.merge_batch.new.into in
    let len : length new ≡ length mid.items = c.merge_batch.ensures.all ∙ ap length c.deref_mut.ensures.value in
    let as_long : length new ≡ mid.len = omega (arith, len, mid.ok) in
    let merged : MergesBatch (length mid.items) mid.items c.in-Ok.taken.totals.items new =
    rw (c.deref-in-Ok.ensures.value, c.deref_mut.ensures.value) at c.merge_batch.ensures.merged in
    let joined = ap (places_of_parts n) c.in_ok-extend_from_slice-in-Ok.ensures.items
    ∙ ap (λ (xs : List ℕ). places_of_parts n (parts ++ xs)) c.deref.ensures.value
    ∙ flat_map-append (part_places n) parts theirs in
    subst (AreBatchTotals lines masks groupings (places_of_parts n c.extend_from_slice.new.self.items))
    (sym (with_items_is mid new as_long))
    (subst (λ places. AreBatchTotals lines masks groupings places new) (sym joined)
    (batch_merged lines masks groupings _ _ mid.items c.in-Ok.taken.totals.items new c.loop-taker.invariant own len
    merged))

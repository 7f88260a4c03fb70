use Rattle.std.proofs.Common.{◌≡◌, List, length, arith, ap, subst, sym, ◌∙◌}
use Rattle.std.proofs.lemmas.List.{with_items_is}
use Rattle.scan_kernel.specs.declared.totals.Totals.{Totals}
use Rattle.scan_kernel.specs.Parts.{part_places, places_of_parts}
use Rattle.scan_kernel.specs.Totals.{AddsBatch, AreBatchTotals, HaveSizes}
use Rattle.scan_kernel.proofs.BatchLaws.{zeros_sized}
use Rattle.scan_kernel.proofs.PartLaws.{batch_more, no_places, places_push}
use Rattle.scan_kernel.proofs.taking.take_parts.Goals as goal

pub loop-turn-init : goal.loop-turn-init
loop-turn-init c =
    let lines = c.args.input.lines.now in
    let groupings = c.args.input.groupings.now in
    let all = c.in_ok-totals.totals.items in
    let none = no_places lines c.args.input.masks.now groupings all c.in_ok-totals.ensures.all
    c.in_ok-totals.ensures.each in
    record {
      room = c.in_ok-room.ensures;
      sizes = zeros_sized groupings all c.in_ok-totals.ensures.all c.in_ok-totals.ensures.each;
      totals = subst (λ parts. AreBatchTotals lines c.args.input.masks.now groupings (places_of_parts
          (length lines.customer.now) parts) all)
          (sym c.new-parts.ensures.items) none;
    }

pub add_part-requires-clause-sizes : goal.add_part-requires-clause-sizes
add_part-requires-clause-sizes c =
    subst (HaveSizes c.args.input.groupings.now) (sym c.deref_mut.ensures.value) c.loop-turn.invariant.sizes

pub loop-turn-preserved : goal.loop-turn-preserved
loop-turn-preserved c =
    let lines = c.args.input.lines.now in
    let masks = c.args.input.masks.now in
    let groupings = c.args.input.groupings.now in
    let n = length lines.customer.now in
    let parts = c.loop-turn.parts.items in
    let mid = c.loop-turn.totals in
    let new = c.add_part.new.totals in
    let as_long : length new ≡ mid.len =
    omega (arith, c.add_part.ensures.sizes.all, c.loop-turn.invariant.sizes.all, mid.ok) in
    let is = sym (with_items_is mid new as_long) in
    let added = subst (λ (ts : List Totals). AddsBatch lines masks groupings
    (part_places n c.fetch_add-number.result) ts new)
    c.deref_mut.ensures.value c.add_part.ensures.added in
    let more = batch_more lines masks groupings (places_of_parts n parts) _ mid.items new c.loop-turn.invariant.totals
    added
    c.add_part.ensures.sizes in
    let pushed = ap (places_of_parts n) c.in_ok-push.ensures.items ∙ places_push n parts c.fetch_add-number.result in
    record {
      room = c.add_part.ensures.room;
      sizes = subst (HaveSizes groupings) is c.add_part.ensures.sizes;
      totals = subst (AreBatchTotals lines masks groupings (places_of_parts n c.push.new.self.items)) is
          (subst (λ places. AreBatchTotals lines masks groupings places new) (sym pushed) more);
    }

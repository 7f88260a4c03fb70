use Rattle.std.proofs.Common.{◌≡◌, ◌-◌, List, length, subst, sym, arith}
use Rattle.std.specs.List.{range_with_len}
use Rattle.std.proofs.lemmas.List.{with_items_is}
use Rattle.scan_kernel.specs.declared.totals.Totals.{Totals}
use Rattle.scan_kernel.specs.Totals.{AddsBatch, AreBatchTotals, HaveSizes}
use Rattle.scan_kernel.proofs.BatchLaws.{zeros_sized, from_zeros}
use Rattle.scan_kernel.proofs.range.range_totals.Goals as goal

pub add_range-requires-clause-sizes : goal.add_range-requires-clause-sizes
add_range-requires-clause-sizes c =
    let P : List Totals → Type 0 = λ ts. HaveSizes c.args.input.groupings.now ts in
    subst P (sym c.deref_mut.ensures.value) (zeros_sized c.args.input.groupings.now c.in_ok-totals.totals.items
    c.in_ok-totals.ensures.all c.in_ok-totals.ensures.each)

pub returns : goal.returns
returns c =
    let range = range_with_len c.args.from (c.args.to - c.args.from) in
    let lines = c.args.input.lines.now in
    let masks = c.args.input.masks.now in
    let groupings = c.args.input.groupings.now in
    let new = c.add_range.new.totals in
    let P : List Totals → Type 0 = λ ts. AddsBatch lines masks groupings range ts new in
    let added = subst P c.deref_mut.ensures.value c.add_range.ensures.added in
    let as_long : length new ≡ c.in_ok-totals.totals.len =
    omega (arith, c.add_range.ensures.sizes.all, c.in_ok-totals.ensures.all, c.in_ok-totals.totals.ok) in
    let R : List Totals → Type 0 = λ ts. AreBatchTotals lines masks groupings range ts in
    subst R (sym (with_items_is c.in_ok-totals.totals new as_long))
    (from_zeros lines masks groupings range c.in_ok-totals.totals.items new c.in_ok-totals.ensures.each
    c.add_range.ensures.sizes added)

use Rattle.std.proofs.Common.{◌+◌, ◌/◌, length, subst}
use Rattle.std.specs.List.{range_with_len}
use Rattle.std.specs.List.Sorted.{IsPermutation}
use Rattle.scan_kernel.specs.Parts.{part_size}
use Rattle.scan_kernel.specs.Totals.{AreBatchTotals}
use Rattle.scan_kernel.proofs.PartLaws.{all_parts, batch_rearranged}
use Rattle.scan_kernel.proofs.parts.parallel_totals.Goals as goal

pub join_taken-requires-clause-takers : goal.join_taken-requires-clause-takers
join_taken-requires-clause-takers g c = rw c.deref-2.ensures.value c.in_ok-takers.ensures

pub returns-then-are_all : goal.returns-then-are_all
returns-then-are_all g c =
    let lines = c.args.lines.now in
    let masks = c.args.masks.now in
    let groupings = c.args.groupings.now in
    let n = length lines.customer.now in
    let are = AreBatchTotals lines masks groupings in
    let totals = c.in_ok-parts.field-0.totals.items in
    let order : IsPermutation c.in_ok-parts.field-0.parts.items (range_with_len 0 (n / part_size + 1)) =
    subst (λ count. IsPermutation c.in_ok-parts.field-0.parts.items (range_with_len 0 count)) c.part_count.ensures
    (c.are_all.ensures c.if-are_all.true) in
    subst (λ places. are places totals) (all_parts n)
    (batch_rearranged lines masks groupings n c.in_ok-parts.field-0.parts.items (range_with_len 0 (n / part_size + 1)) totals order
    c.in_ok-parts.ensures)

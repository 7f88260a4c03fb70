use Rattle.std.proofs.Common.{ℕ, ◌+◌, ◌-◌, length, subst}
use Rattle.std.specs.List.{range_with_len}
use Rattle.scan_kernel.specs.Parts.{bound}
use Rattle.scan_kernel.specs.Totals.{AddsBatch}
use Rattle.scan_kernel.proofs.taking.add_part.Goals as goal

pub returns-clause-added : goal.returns-clause-added
returns-clause-added c =
    let Added : ℕ → ℕ → Type 0 = λ from to.
    AddsBatch c.args.input.lines.now c.args.input.masks.now c.args.input.groupings.now (range_with_len from
    (to - from)) c.args.totals.now
    c.add_range.new.totals in
    subst (λ from. Added from (bound (length c.args.input.lines.now.customer.now) (c.args.number + 1)))
    c.part_bound-from.ensures
    (subst (λ to. Added c.part_bound-from.result to) c.part_bound-to.ensures c.add_range.ensures.added)

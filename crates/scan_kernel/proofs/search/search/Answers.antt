use Rattle.std.proofs.Common.{◌∙◌, arith}
use Rattle.scan_kernel.specs.Places.{mask_at}
use Rattle.scan_kernel.specs.Plan.{active_mask_at, looked_at}
use Rattle.scan_kernel.proofs.PlanLaws.{mask_small, same_masks, search_same}
use Rattle.scan_kernel.proofs.search.search.Goals as goal

pub returns : goal.returns
returns c =
    let lines = c.args.input.lines.now in
    let masks = c.args.input.masks.now in
    let plan = c.args.plan in
    let tables = c.slices_of-tables in
    search_same _ (mask_at lines masks) c.args.from c.args.to _ _ _ _ _ c.requires.order
    (λ i from to. (λ j. active_mask_at lines (tables.ensures.looked_at j) (tables.ensures.active j) i)
    ∙ same_masks plan.active (mask_at lines (looked_at plan.looks_at masks) i) (mask_at lines masks i)
    (omega (arith, tables.ensures.active, tables.ensures.few))
    (mask_small lines masks i tables.ensures.small) (c.requires.suffices i from to)) c.search_tables.ensures

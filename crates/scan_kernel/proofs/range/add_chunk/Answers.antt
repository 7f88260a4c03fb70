use Rattle.std.proofs.Common.{◌≡◌, ◌/◌, arith}
use Rattle.scan_kernel.specs.Zones.{chunk_size}
use Rattle.scan_kernel.proofs.PlanLaws.{none_active}
use Rattle.scan_kernel.proofs.WantedLaws.{left_out_adds}
use Rattle.scan_kernel.proofs.range.add_chunk.Goals as goal

pub add_places_of_chunk-requires-clause-suffices : goal.add_places_of_chunk-requires-clause-suffices
add_places_of_chunk-requires-clause-suffices c = λ place from to.
    let here : place / chunk_size ≡ c.args.from / chunk_size = omega (arith, from, to, c.requires.one) in
    c.plan_of-plan.ensures place here (omega (arith, to, c.requires.within))

pub returns-else-plan-ne0-clause-added : goal.returns-else-plan-ne0-clause-added
returns-else-plan-ne0-clause-added c =
    let input = c.args.input in
    left_out_adds input.lines.now input.masks.now input.groupings.now c.args.totals.now c.args.from c.args.to
    c.requires.order c.requires.within c.requires.one (none_active input.lines.now input.masks.now _ _
    c.plan_of-plan.result c.plan_of-plan.ensures c.requires.scan.few c.if-plan-ne0.false)

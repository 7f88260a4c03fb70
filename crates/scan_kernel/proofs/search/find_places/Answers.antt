use Rattle.std.proofs.Common.{arith}
use Rattle.scan_kernel.proofs.SearchLaws.{found_first, found_some, found_none}
use Rattle.scan_kernel.proofs.search.find_places.Goals as goal
use Rattle.scan_kernel.proofs.search.find_places.Goals.{then-mask-ne0, else-mask-ne0}

pub loop-at-init : goal.loop-at-init
loop-at-init g c = found_first _ _ _ _

pub loop-at-preserved : goal.loop-at-preserved
loop-at-preserved g c =
    let is = c.line_mask-mask.ensures in
    elim c.if-mask-ne0.branch [
      | then-mask-ne0 w ↦ found_some _ _ _ _ _ _ _ _ c.loop-at.invariant (omega (arith, c.loop-at.invariant.fewer))
          (omega (arith, c.loop-at.invariant.fewer)) is (omega arith) w.count-is
      | else-mask-ne0 w ↦ found_none _ _ _ _ _ _ _ _ c.loop-at.invariant is w.if-mask-ne0.false w.count-is
    ]

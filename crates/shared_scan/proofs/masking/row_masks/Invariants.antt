use Rattle.std.proofs.Common.{take}
use Rattle.shared_scan.specs.Masking.{AreRowMasks}
use Rattle.shared_scan.proofs.masking.row_masks.Given as goal

abbrev pub invariant-loop-place : goal.invariant-loop-place
invariant-loop-place l = AreRowMasks l.index l.table l.plans (take l.place-index l.places) l.masks.items

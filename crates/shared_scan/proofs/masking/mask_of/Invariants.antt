use Rattle.shared_scan.proofs.MaskingLaws.{IsMaskUpTo}
use Rattle.shared_scan.proofs.masking.mask_of.Given as goal

abbrev pub invariant-loop-number : goal.invariant-loop-number
invariant-loop-number g l = IsMaskUpTo (λ plan. g.T.Tested.takes plan l.item) l.plans l.number l.mask

use Rattle.scan_kernel.proofs.DealtLaws.{GivesRest}
use Rattle.scan_kernel.proofs.selecting.deal_place.Given as goal

-- the bits that are not left have had the place
abbrev pub invariant-loop-rest : goal.invariant-loop-rest
invariant-loop-rest l = GivesRest l.place l.mask l.rest l.initial.lists l.lists

abbrev pub decreases-loop-rest : goal.decreases-loop-rest
decreases-loop-rest l = l.rest

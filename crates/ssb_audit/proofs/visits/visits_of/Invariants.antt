use Rattle.std.proofs.Common.{◌≡◌, take}
use Rattle.ssb_audit.specs.Visits.{visits_of}
use Rattle.ssb_audit.proofs.visits.visits_of.Given as goal

-- the visits so far are those to the answers so far
abbrev pub invariant-loop-place : goal.invariant-loop-place
invariant-loop-place l = l.visits.items ≡ visits_of (take l.place l.answers)

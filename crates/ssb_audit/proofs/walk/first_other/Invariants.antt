use Rattle.ssb_audit.specs.Visits.{IsFirstOther}
use Rattle.ssb_audit.proofs.walk.first_other.Given as goal

-- what is asked, of the visits so far
abbrev pub invariant-loop-k : goal.invariant-loop-k
invariant-loop-k l = IsFirstOther l.answers l.visits l.found l.k l.limit l.first

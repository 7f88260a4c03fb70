use Rattle.std.proofs.Common.{◌≡◌}
use Rattle.std.specs.Prelude.{slice_index_or}
use Rattle.std.specs.List.{AllWithin}
use Rattle.ssb_audit.specs.declared.visits.Visit.{Visit}
use Rattle.ssb_audit.proofs.visits.batch_end.Given as goal

-- the visits so far are after as many commits as the first of them
abbrev pub invariant-loop-end : goal.invariant-loop-end
invariant-loop-end l = (first : Visit) → AllWithin (λ visit. visit.at ≡ (slice_index_or l.visits l.begin first).at)
    l.visits l.begin l.end

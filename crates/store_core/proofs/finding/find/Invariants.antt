use Rattle.std.proofs.Common.{◌≡◌, ◌∷◌, ◌++◌, take}
use Rattle.std.specs.Prelude.{filter, nat_lt}
use Rattle.store_core.specs.Walked.{IsWalked}
use Rattle.store_core.proofs.finding.find.Given as goal

-- the segments so far were walked, and those behind the newest tables were seen
abbrev pub invariant-loop-place : goal.invariant-loop-place
invariant-loop-place g l =
    record {
      walked : IsWalked (g.R.ReadsSegments.store l.reader).segments l.segments l.place l.found l.next;
      after : l.found.after ≡ l.after;
      same : g.R.ReadsSegments.store l.reader ≡ g.R.ReadsSegments.store l.fn.reader;
      seen : g.R.ReadsSegments.seen l.reader ≡ g.R.ReadsSegments.seen l.fn.reader
          ++ l.after ∷ filter (λ n. nat_lt l.after n) (take l.place l.segments);
    }

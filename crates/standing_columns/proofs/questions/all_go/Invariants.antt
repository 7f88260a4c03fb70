use Rattle.std.proofs.Common.{◌≡◌, ℕ, ◌<◌, ◌≤◌, get_or}
use Rattle.shared_scan.specs.declared.standing.Standing.{Standing}
use Rattle.standing_columns.proofs.StandingLaws.{Goes}
use Rattle.standing_columns.proofs.questions.all_go.Given as goal

abbrev pub invariant-loop-batch : goal.invariant-loop-batch
invariant-loop-batch l = record {
  done : (k : ℕ) (t : Standing) → k < l.batch-index
      → Goes l.line (get_or l.fn.batches k t) (get_or l.batches k t);
  left : (k : ℕ) (t : Standing) → l.batch-index ≤ k → get_or l.batches k t ≡ get_or l.fn.batches k t;
}

use Rattle.std.proofs.Common.{◌≡◌, ℕ, ◌-◌, ◌<◌, ◌≤◌, length, slice_index}
use Rattle.row_store.specs.Keyed.{key_at}
use Rattle.row_store.proofs.index.run_end.Given as goal

abbrev pub invariant-loop-end : goal.invariant-loop-end
invariant-loop-end l = record {
  later : l.first < l.end;
  within : l.end ≤ length l.index;
  alike : (k : ℕ) → l.first ≤ k → k < l.end → key_at l.lines (slice_index l.index k) ≡ l.key;
}

abbrev pub decreases-loop-end : goal.decreases-loop-end
decreases-loop-end l = length l.index - l.end

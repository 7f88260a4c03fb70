use Rattle.std.proofs.Common.{ℕ, ◌-◌, ◌<◌, ◌≤◌, length, take, slice_index, nat_eq}
use Rattle.std.specs.HashMap.{get}
use Rattle.row_store.specs.Keyed.{Located, key_at, lines_at}
use Rattle.row_store.proofs.index.place_runs.Given as goal

abbrev pub invariant-loop-first : goal.invariant-loop-first
invariant-loop-first l = record {
  within : l.first ≤ length l.index;
  located : Located (record { loaded = l.lines; index = l.index }) (get nat_eq l.orders)
      (lines_at l.lines (take l.first l.index));
  apart : (i j : ℕ) → i < l.first → l.first ≤ j → j < length l.index
      → key_at l.lines (slice_index l.index i) < key_at l.lines (slice_index l.index j);
}

abbrev pub decreases-loop-first : goal.decreases-loop-first
decreases-loop-first l = length l.index - l.first

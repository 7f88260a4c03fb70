use Rattle.std.proofs.Common.{◌≡◌, ℕ, ◌<◌, ◌≤◌, ◌+◌, ◌%◌, ◌^◌, length, get_or}
use Rattle.scan_kernel.specs.Places.{part_at}
use Rattle.scan_kernel.proofs.selecting.add_parts.Given as goal

abbrev pub invariant-loop-at : goal.invariant-loop-at
invariant-loop-at l = record {
  len : length l.groups ≡ length l.initial.groups;
  done : (k : ℕ) → k < l.at → get_or l.groups k 0 ≡ (get_or l.initial.groups k 0
      + part_at (get_or l.places k 0) l.column) % 2 ^ 32;
  left : (k : ℕ) → l.at ≤ k → get_or l.groups k 0 ≡ get_or l.initial.groups k 0;
}

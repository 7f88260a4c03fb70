use Rattle.std.proofs.Common.{◌≡◌, ℕ, ◌+◌, ◌%◌, ◌^◌, ◌<◌, ◌≤◌, get_or}
use Rattle.scan_kernel.proofs.parts.merge_column.Given as goal

abbrev pub invariant-loop-group : goal.invariant-loop-group
invariant-loop-group l = record {
  done : (k : ℕ) → k < l.group → get_or l.into k 0 ≡ (get_or l.initial.into k 0 + get_or l.from k 0) % 2 ^ 64;
  left : (k : ℕ) → l.group ≤ k → get_or l.into k 0 ≡ get_or l.initial.into k 0;
}

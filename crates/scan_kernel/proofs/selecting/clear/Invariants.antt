use Rattle.std.proofs.Common.{◌≡◌, ℕ, ◌<◌, length, get_or}
use Rattle.scan_kernel.proofs.selecting.clear.Given as goal

abbrev pub invariant-loop-at : goal.invariant-loop-at
invariant-loop-at l = record {
  len : length l.groups ≡ length l.initial.groups;
  done : (k : ℕ) → k < l.at → get_or l.groups k 0 ≡ 0;
}

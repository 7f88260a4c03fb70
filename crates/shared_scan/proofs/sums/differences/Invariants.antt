use Rattle.std.proofs.Common.{◌≡◌, ℕ, ◌<◌, length, get_or}
use Rattle.std.specs.Prelude.{pos, ◌-ℤ◌}
use Rattle.shared_scan.proofs.sums.differences.Given as goal

abbrev pub invariant-loop-group : goal.invariant-loop-group
invariant-loop-group l = record {
  len : length l.sums.items ≡ l.group;
  each : (g : ℕ) → g < l.group → get_or l.sums.items g (pos 0) ≡ pos (get_or l.gains g 0) -ℤ pos (get_or l.losses g 0);
}

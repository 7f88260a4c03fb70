use Rattle.std.proofs.Common.{◌≡◌, ℕ, length, map, take}
use Rattle.scan_kernel.specs.Sums.{Adds}
use Rattle.scan_kernel.proofs.adding.count_places.Given as goal

abbrev pub invariant-loop-at : goal.invariant-loop-at
invariant-loop-at l = record {
  len : length l.counts ≡ length l.initial.counts;
  added : (group : ℕ → ℕ) → l.groups ≡ map group l.places
      → Adds (λ place. 1) group (take l.at l.places) l.initial.counts l.counts;
}

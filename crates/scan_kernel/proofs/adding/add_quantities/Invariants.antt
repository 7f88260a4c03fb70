use Rattle.std.proofs.Common.{◌≡◌, ℕ, ◌/◌, length, map, take, get_or}
use Rattle.scan_kernel.specs.Sums.{Adds}
use Rattle.scan_kernel.proofs.adding.add_quantities.Given as goal

abbrev pub invariant-loop-at : goal.invariant-loop-at
invariant-loop-at l = record {
  len : length l.sums ≡ length l.initial.sums;
  added : (group : ℕ → ℕ) → l.groups ≡ map group l.places
      → Adds (λ place. get_or l.terms place 0 / 16) group (take l.at l.places) l.initial.sums l.sums;
}

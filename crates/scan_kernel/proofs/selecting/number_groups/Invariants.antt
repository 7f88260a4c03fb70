use Rattle.std.proofs.Common.{◌≡◌, ℕ, ◌<◌, ◌%◌, ◌^◌, length, get_or, take}
use Rattle.std.specs.List.{sum_by}
use Rattle.scan_kernel.specs.Places.{part_at}
use Rattle.scan_kernel.proofs.selecting.number_groups.Given as goal

abbrev pub invariant-loop-column : goal.invariant-loop-column
invariant-loop-column l = record {
  len : length l.groups ≡ length l.places;
  numbers : (k : ℕ) → k < length l.places → get_or l.groups k 0 ≡ sum_by (part_at (get_or l.places k 0))
      (take l.column-index l.columns) % 2 ^ 32;
}

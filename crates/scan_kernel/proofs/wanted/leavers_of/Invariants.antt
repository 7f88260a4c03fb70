use Rattle.std.proofs.Common.{◌≡◌, ℕ, ◌<◌, length, get_or}
use Rattle.std.specs.Int.{bit_at, bit_not, w16}
use Rattle.scan_kernel.specs.Zones.{coarse}
use Rattle.scan_kernel.proofs.wanted.leavers_of.Given as goal

-- what the masks of the first rows lack is in
abbrev pub invariant-loop-row : goal.invariant-loop-row
invariant-loop-row l = record {
  all : length l.leavers ≡ 64;
  in_all : (row k : ℕ) → row < l.row → bit_at (bit_not w16 (get_or l.masks row 0)) k ≡ 1
      → bit_at (get_or l.leavers (coarse l.codes row) 0) k ≡ 1;
}

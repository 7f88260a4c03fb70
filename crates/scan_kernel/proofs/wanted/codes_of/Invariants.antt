use Rattle.std.proofs.Common.{◌≡◌, ℕ, ◌<◌, get_or}
use Rattle.std.specs.Int.{bit_at}
use Rattle.scan_kernel.specs.Zones.{HasCode}
use Rattle.scan_kernel.proofs.wanted.codes_of.Given as goal

-- the first codes are in, where they are to be
abbrev pub invariant-loop-code : goal.invariant-loop-code
invariant-loop-code l = (code : ℕ) → code < l.code → bit_at (get_or l.masks code 0) l.question ≡ 1
    → HasCode l.set code

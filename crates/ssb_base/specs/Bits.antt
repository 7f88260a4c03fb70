-- Sets of numbers, a bit for each.
use Rattle.std.specs.Prelude.{ℕ, Bool, ◌*◌, ◌/◌, ◌%◌, nat_eq, length, slice_index}
use Rattle.std.specs.Int.{bit_at}
use Rattle.ssb_base.specs.declared.bits.Bits.{Bits}

-- how many numbers it has bits for: those below this
abbrev pub room : Bits → ℕ
room bits = 64 * length bits.words.items

-- a number is in the set
abbrev pub has : Bits → ℕ → Bool
has bits i = nat_eq (bit_at (slice_index bits.words.items (i / 64)) (i % 64)) 1

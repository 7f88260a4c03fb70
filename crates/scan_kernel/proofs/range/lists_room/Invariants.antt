use Rattle.std.proofs.Common.{◌≡◌, ◌≤◌, ◌<◌, ℕ, Vec, Global, length}
use Rattle.scan_kernel.specs.Dealt.{room_of}
use Rattle.scan_kernel.proofs.range.lists_room.Given as goal

-- so many lists have room
abbrev pub invariant-loop-bit : goal.invariant-loop-bit
invariant-loop-bit l = record {
  all : length l.lists.items ≡ l._bit;
  room : (k : ℕ) (list : Vec ℕ Global) → k < l._bit → l.count ≤ room_of l.lists.items k list;
}

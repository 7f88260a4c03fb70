use Rattle.std.proofs.Common.{◌≡◌, ℕ, ◌<◌, false, slice_index_or}
use Rattle.std.specs.Slots.{slots_filled, slots_len}
use Rattle.std.specs.Slots.Ownership.{Filled}
use Rattle.history.proofs.steps.finish.Given as goal

abbrev pub invariant-loop-slot : goal.invariant-loop-slot
invariant-loop-slot g l = record {
  full : Filled (slots_filled l.closed.slots) l.slot (slots_len l.closed.slots);
  bare : (k : ℕ) → k < l.slot → slice_index_or (slots_filled l.closed.slots) k false ≡ false;
  end : l.slot-end ≡ slots_len l.closed.slots;
}

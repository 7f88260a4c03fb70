use Rattle.std.proofs.Common.{◌≡◌, ℕ, ◌<◌, ◌≤◌, Vec, Global, map, take}
use Rattle.scan_kernel.specs.Dealt.{AreDealt, KeepRoom, len_of}
use Rattle.scan_kernel.proofs.selecting.deal_places.Given as goal

-- the first places are dealt
abbrev pub invariant-loop-at : goal.invariant-loop-at
invariant-loop-at l = record {
  room : KeepRoom l.fn.lists l.lists;
  few : (k : ℕ) (list : Vec ℕ Global) → k < 16 → len_of l.lists k list ≤ l.at;
  dealt : (mask : ℕ → ℕ) → l.found ≡ map mask l.places → AreDealt mask (take l.at l.places) l.lists;
}

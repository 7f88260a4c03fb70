use Rattle.std.proofs.Common.{◌≡◌, ℕ, ◌<◌, Vec, Global, []}
use Rattle.scan_kernel.specs.Dealt.{KeepRoom, in_list}
use Rattle.scan_kernel.proofs.selecting.clear_lists.Given as goal

-- the first lists have no places
abbrev pub invariant-loop-number : goal.invariant-loop-number
invariant-loop-number l = record {
  room : KeepRoom l.initial.lists l.lists;
  none : (k : ℕ) (list : Vec ℕ Global) → k < l.number → in_list l.lists k list ≡ [];
}

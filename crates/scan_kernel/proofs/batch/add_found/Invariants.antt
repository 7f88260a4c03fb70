use Rattle.std.proofs.Common.{◌≡◌, ℕ, ◌<◌, ◌≤◌, ◌-◌, length, get_or}
use Rattle.std.specs.List.{range_with_len}
use Rattle.std.specs.Prelude.{vec_len}
use Rattle.scan_kernel.specs.Dealt.{AreDealt, KeepRoom}
use Rattle.scan_kernel.specs.Places.{mask_at}
use Rattle.scan_kernel.specs.Totals.{AddsPlaces, taken}
use Rattle.scan_kernel.specs.declared.columns.Grouping.{Grouping}
use Rattle.scan_kernel.specs.declared.totals.Totals.{Totals}
use Rattle.scan_kernel.proofs.batch.add_found.Given as goal

abbrev pub invariant-loop-number : goal.invariant-loop-number
invariant-loop-number l = record {
  lists : KeepRoom l.fn.dealt.lists.items l.dealt.lists.items;
  dealt : AreDealt (mask_at l.lines l.masks) l.found.places.now l.dealt.lists.items;
  groups : vec_len l.dealt.groups ≡ vec_len l.fn.dealt.groups;
  all : length l.totals ≡ length l.groupings;
  done : (k : ℕ) (q : Grouping) (t : Totals) → k < l.number
      → AddsPlaces l.lines (get_or l.groupings k q) (taken l.lines l.masks k (range_with_len l.found.from (l.found.to - l.found.from)))
      (get_or l.initial.totals k t) (get_or l.totals k t);
  left : (k : ℕ) (t : Totals) → l.number ≤ k → get_or l.totals k t ≡ get_or l.initial.totals k t;
}

use Rattle.std.proofs.Common.{◌≡◌, ◌≤◌, ◌^◌, take}
use Rattle.scan_kernel.specs.Groups.{size_of, counts_of}
use Rattle.shared_scan.specs.Grouped.{ArePrepared}
use Rattle.shared_scan.proofs.groups.prepare_groups.Given as goal

abbrev pub invariant-loop-column : goal.invariant-loop-column
invariant-loop-column l = record {
  prepared : ArePrepared l.index l.masks l.question (take l.column-index l.columns) l.values.items 1 l.parts.items;
  size : l.size ≡ size_of (counts_of l.values.items);
  none : l.column-index ≤ 0 → l.size ≤ 1;
  one : l.column-index ≤ 1 → l.size ≤ 2 ^ 20;
  two : l.column-index ≤ 2 → l.size ≤ 2 ^ 40;
  three : l.column-index ≤ 3 → l.size ≤ 2 ^ 60;
}

use Rattle.std.proofs.Common.{◌≡◌, ◌≤◌, ◌^◌, map, take}
use Rattle.scan_kernel.specs.Groups.{size_of}
use Rattle.shared_scan.specs.GroupCounts.{count_passing}
use Rattle.query_command.proofs.sizes.most_choices.Given as goal

abbrev pub invariant-loop-column : goal.invariant-loop-column
invariant-loop-column l = record {
  most : l.most ≡ size_of (map (count_passing l.base.dimensions l.plan) (take l.column-index l.columns));
  none : l.column-index ≤ 0 → l.most ≤ 1;
  one : l.column-index ≤ 1 → l.most ≤ 2 ^ 20;
  two : l.column-index ≤ 2 → l.most ≤ 2 ^ 40;
  three : l.column-index ≤ 3 → l.most ≤ 2 ^ 60;
}

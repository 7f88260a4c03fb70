use Rattle.std.proofs.Common.{◌≡◌, map, take}
use Rattle.std.specs.Map.{keys_of, values_of}
use Rattle.scan_kernel.specs.declared.sparse.GroupSums.{GroupSums}
use Rattle.shared_scan.specs.Scanned.{net}
use Rattle.shared_scan.proofs.sparse.list_groups.Given as goal

abbrev pub invariant-loop-at : goal.invariant-loop-at
invariant-loop-at l = record {
  numbers : l.numbers.items ≡ keys_of (take l.at l.totals.entries);
  counts : l.counts.items ≡ map (λ (sums : GroupSums). sums.count) (values_of (take l.at l.totals.entries));
  sums : l.sums.items ≡ map net (values_of (take l.at l.totals.entries));
}

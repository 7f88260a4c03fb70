use Rattle.std.proofs.Common.{◌≡◌, ◌≤◌, length}
use Rattle.store_folder.proofs.segment_reader.SegmentReader.fill_at.Given as goal

abbrev pub invariant-loop : goal.invariant-loop
invariant-loop g l = record {
  filled : l.filled ≤ length l.bytes;
  size : length l.bytes ≡ length l.fn.bytes;
}

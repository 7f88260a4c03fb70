use Rattle.std.proofs.Common.{◌≡◌, ◌≤◌, length}
use Rattle.journal_file.proofs.watched_file.fill_at.Given as goal

abbrev pub invariant-loop : goal.invariant-loop
invariant-loop g l = record {
  filled : l.filled ≤ length l.bytes;
  size : length l.bytes ≡ length l.fn.bytes;
}

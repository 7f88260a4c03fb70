use Rattle.std.proofs.Common.{◌≡◌, All, vec_len}
use Rattle.twin_cell.proofs.cell.new_readers.Given as goal

abbrev pub invariant-loop : goal.invariant-loop
invariant-loop g l = record {
  kept : l.writer ≡ l.initial.writer;
  count : vec_len l.readers ≡ l.counter;
  known : All (λ reader. (reader.base ≡ l.initial.writer.base) × (reader.told ≡ l.initial.writer.published))
      l.readers.items;
}

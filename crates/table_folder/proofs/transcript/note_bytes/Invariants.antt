use Rattle.std.proofs.Common.{◌≡◌, ◌++◌, take}
use Rattle.table_folder.proofs.transcript.note_bytes.Given as goal

abbrev pub invariant-loop-byte : goal.invariant-loop-byte
invariant-loop-byte l = l.written.items ≡ l.fn.written.items ++ take l.byte-index l.bytes

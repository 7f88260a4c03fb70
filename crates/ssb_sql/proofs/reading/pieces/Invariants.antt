-- What was said so far, and what the tokens say that are left, is all; and so many are left.
use Rattle.std.proofs.Common.{◌≡◌, ◌+◌, drop, length}
use Rattle.ssb_sql.specs.Reading.{read, run, say_all}
use Rattle.ssb_sql.proofs.reading.pieces.Given as goal

abbrev pub invariant-loop-token : goal.invariant-loop-token
invariant-loop-token l = record {
  told : say_all l.found.items (run (drop l.token-index l.tokens) l.state) ≡ read l.tokens;
  left : l.left + l.token-index ≡ length l.tokens;
}

use Rattle.std.proofs.Common.{◌≡◌, ◌+◌, drop}
use Rattle.ssb_sql.specs.Lexemes.{run_len}
use Rattle.ssb_sql.proofs.lexeme.run_len.Given as goal

abbrev pub invariant-loop-at : goal.invariant-loop-at
invariant-loop-at l = run_len l.class (drop l.at l.bytes) + l.at ≡ run_len l.class l.bytes

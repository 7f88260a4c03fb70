use Rattle.std.proofs.Common.{◌≡◌, ◌+◌, drop}
use Rattle.std.proofs.Common.{option_map, true}
use Rattle.ssb_sql.specs.Lexemes.{quoted_len}
use Rattle.ssb_sql.proofs.lexeme.quoted_len.Given as goal

abbrev pub invariant-loop-at : goal.invariant-loop-at
invariant-loop-at l =
    option_map (λ n. n + l.at) (quoted_len l.is_within (drop l.at l.bytes)) ≡ quoted_len true l.bytes

use Rattle.std.proofs.Common.{◌≡◌, ◌+◌, drop}
use Rattle.std.proofs.Common.{option_map, false}
use Rattle.ssb_sql.specs.Lexemes.{comment_len}
use Rattle.ssb_sql.proofs.lexeme.comment_len.Given as goal

abbrev pub invariant-loop-at : goal.invariant-loop-at
invariant-loop-at l =
    option_map (λ n. n + l.at) (comment_len l.is_behind_star (drop l.at l.bytes)) ≡ comment_len false l.bytes

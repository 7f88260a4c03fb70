use Rattle.std.proofs.Common.{◌≡◌, drop, map}
use Rattle.std.specs.List.{list_any}
use Rattle.ssb_sql.specs.Tokens.{is_named, named_now, names}
use Rattle.ssb_sql.proofs.found.is_named.Given as goal

abbrev pub invariant-loop-own : goal.invariant-loop-own
invariant-loop-own l =
    list_any (names (named_now l.qualifier)) (map named_now (drop l.own-index l.sources))
    ≡ is_named (map named_now l.sources) (named_now l.qualifier)

use Rattle.std.proofs.Common.{◌≡◌, drop, map}
use Rattle.std.specs.List.{list_all}
use Rattle.ssb_sql.specs.Tokens.{are_named, found_now, is_named, named_now, qualifier_now}
use Rattle.ssb_sql.proofs.found.Found.unnamed.Given as goal

abbrev pub invariant-loop-qualifier : goal.invariant-loop-qualifier
invariant-loop-qualifier l =
    list_all (is_named (map named_now l.self.sources.items))
    (map qualifier_now (drop l.qualifier-index l.self.qualifiers.items))
    ≡ are_named (found_now l.self)

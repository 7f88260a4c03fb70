use Rattle.std.proofs.Common.{◌≡◌, ◌++◌, map, take}
use Rattle.std.specs.String.{string_bytes}
use Rattle.ssb_explain.specs.Names.{line_key_sql}
use Rattle.ssb_explain.proofs.nested.add_line_keys.Given as goal

abbrev pub invariant-loop-table : goal.invariant-loop-table
invariant-loop-table l =
    map string_bytes l.kept.items ≡ map string_bytes l.fn.kept.items ++ map line_key_sql (take l.table-index l.tables)

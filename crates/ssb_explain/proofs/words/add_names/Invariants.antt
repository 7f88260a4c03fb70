use Rattle.std.proofs.Common.{◌≡◌, ◌++◌, map, take}
use Rattle.std.specs.String.{string_bytes}
use Rattle.ssb_schema.specs.Columns.{column_name}
use Rattle.ssb_explain.proofs.words.add_names.Given as goal

abbrev pub invariant-loop-column : goal.invariant-loop-column
invariant-loop-column l =
    map string_bytes l.fields.items ≡ map string_bytes l.fn.fields.items ++ map column_name (take l.column-index l.columns)

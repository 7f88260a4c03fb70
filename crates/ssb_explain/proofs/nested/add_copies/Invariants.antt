use Rattle.std.proofs.Common.{◌≡◌, ◌++◌, map, take}
use Rattle.std.specs.String.{string_bytes}
use Rattle.ssb_explain.proofs.nested.add_copies.Given as goal

abbrev pub invariant-loop-text : goal.invariant-loop-text
invariant-loop-text l =
    map string_bytes l.kept.items ≡ map string_bytes l.fn.kept.items ++ map string_bytes (take l.text-index l.texts)

use Rattle.std.proofs.Common.{◌≡◌, ◌++◌, map, take}
use Rattle.std.specs.String.{string_bytes}
use Rattle.ssb_explain.proofs.nested.add_names.Given as goal

abbrev pub invariant-loop-name : goal.invariant-loop-name
invariant-loop-name l =
    map string_bytes l.kept.items ≡ map string_bytes l.fn.kept.items ++ map (λ name. name.now) (take l.name-index l.names)

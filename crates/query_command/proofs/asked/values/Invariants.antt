use Rattle.std.proofs.Common.{◌≡◌, ◌++◌, drop, map}
use Rattle.query_command.specs.Asked.{values_spelled}
use Rattle.query_command.proofs.asked.values.Given as goal

-- the constants so far, and those of the words that are left
abbrev pub invariant-loop-i : goal.invariant-loop-i
invariant-loop-i l =
    l.values.items ++ values_spelled (drop l.i l.kinds) (map (λ word. word.now) (drop l.i l.words)) ≡ values_spelled
    l.kinds (map (λ word. word.now) l.words)

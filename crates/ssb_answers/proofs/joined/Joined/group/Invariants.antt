use Rattle.std.proofs.Common.{◌≡◌, map, take}
use Rattle.ssb_answers.specs.Combination.{value_at}
use Rattle.ssb_answers.specs.Joined.{combination_of}
use Rattle.ssb_answers.proofs.joined.Joined.group.Given as goal

abbrev pub invariant-loop-column : goal.invariant-loop-column
invariant-loop-column l = l.groups.items
    ≡ map (λ column. value_at column (combination_of l.self)) (take l.column-index l.column-items)
